use Rattle.std.proofs.Common.{◌≡◌, ◌≤◌, ◌+◌, ◌-◌, ap, sym, refl, ◌∙◌, arith, length, take, drop, inl}
use Rattle.trace_text.specs.Reader.{Reader}
use Rattle.trace_text.proofs.Cuts.{first-long, part, length-part, part_cut}
use Rattle.trace_types.specs.Lines.{first_of}
use Rattle.std.proofs.lemmas.List.{take-take}
use Rattle.trace_text.proofs.reader.LineReader.split.Goals as goal

pub returns-in-Some-clause-next : goal.returns-in-Some-clause-next
returns-in-Some-clause-next c =
    let h = part c.self.inside.buffer.items c.self.inside.start c.self.inside.end in
    let at = c.in-Some.at in
    let held : h ≡ c.args.self.now.held = ap (λ (r : Reader). r.held) c.self.view_is in
    let newline = rw c.deref.ensures.value at c.in-Some.ensures.newline in
    let first = rw c.deref.ensures.value at c.in-Some.ensures.first in
    let long : at ≤ length (first_of h) = first-long h at (omega arith) first in
    record { held = sym held; long = omega arith; line = refl }

pub returns-in-Some-2-clause-next : goal.returns-in-Some-2-clause-next
returns-in-Some-2-clause-next c =
    let b = c.self.inside.buffer.items in
    let s = c.self.inside.start in
    let e = c.self.inside.end in
    let at = c.in-Some.at in
    let h = part b s e in
    let held : h ≡ c.args.self.now.held = ap (λ (r : Reader). r.held) c.self.view_is in
    let newline = rw c.deref.ensures.value at c.in-Some.ensures.newline in
    let first = rw c.deref.ensures.value at c.in-Some.ensures.first in
    let full : length b ≡ 4096 = omega arith in
    let long : length h ≡ e - s = length-part b s e (omega arith) (omega arith) in
    let cut = part_cut b s e at (omega arith) (omega arith) newline.1 in
    let same : s + at - s ≡ at = omega arith in
    let line : part b s (s + at) ≡ take at h = rw same (sym (take-take at (e - s) (drop s b) (omega arith))) in
    let short : length (part b s (s + at)) ≡ s + at - s = length-part b s (s + at) (omega arith) (omega arith) in
    record {
      plain = rw line first;
      short = omega arith;
      either = inl (record { bytes_are = sym held ∙ cut; window = omega (arith, ap length cut) });
    }
