use Rattle.std.proofs.Common.{◌≡◌, ◌≤◌, ◌-◌, ◌∙◌, ap, sym, arith, length}
use Rattle.std.proofs.lemmas.List.{take_all}
use Rattle.trace_text.specs.Reader.{Reader}
use Rattle.trace_text.proofs.Cuts.{first-long, part, length-part}
use Rattle.trace_types.specs.Lines.{first_of}
use Rattle.trace_text.proofs.reader.LineReader.split_plain.Goals as goal

pub returns-then-count-gt-LONGEST-clause-next : goal.returns-then-count-gt-LONGEST-clause-next
returns-then-count-gt-LONGEST-clause-next c =
    let b = c.self.inside.buffer.items in
    let s = c.self.inside.start in
    let e = c.self.inside.end in
    let h = c.args.self.now.held in
    let held : part b s e ≡ h = ap (λ (r : Reader). r.held) c.self.view_is in
    let full : length b ≡ 4096 = omega arith in
    let size : length (part b s e) ≡ e - s = length-part b s e (omega arith) (omega arith) in
    let long : length h ≤ length (first_of h) = first-long h (length h) (omega arith) (rw (take_all (length h) h (omega arith)) c.requires.plain) in
    record { held = sym held; long = rw held (omega (arith, ap length held)); line = ap (λ (r : Reader). r.line) c.self.view_is ∙ c.requires.line }
