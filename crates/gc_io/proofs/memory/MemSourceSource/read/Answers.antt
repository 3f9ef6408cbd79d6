use Rattle.std.proofs.Common.{◌≡◌, ◌+◌, ◌≤◌, length, drop, arith, length-append, ap, sym, ◌∙◌}
use Rattle.std.proofs.lemmas.List.{drop_all}
use Rattle.gc_io.specs.Memory.{SourceState}
use Rattle.gc_io.proofs.Moves.{front, taken}
use Rattle.gc_io.proofs.memory.MemSourceSource.read.Goals as goal

pub returns-clause-bytes : goal.returns-clause-bytes
returns-clause-bytes c =
    let b = c.self.inside.bytes.items in
    let into = c.args.into.now in
    let w = c.copy_from_slice.new.self in
    let n = c.min-count.result in
    let at = c.self.inside.at in
    let fits : at + n ≤ length b = omega arith in
    let room : n ≤ length into = omega arith in
    let e = rw c.deref.ensures.value at c.copy_from_slice.ensures.after in
    let long : length w ≡ n = front b into w at n fits room e in
    let left : drop at b ≡ c.args.self.now.left = ap (λ (s : SourceState). s.left) c.self.view_is in (
      omega (arith, length-append w (drop n into)),
      sym left ∙ taken b into w at n fits room e,
      λ none. drop_all (at + n) b (omega arith),
    )
