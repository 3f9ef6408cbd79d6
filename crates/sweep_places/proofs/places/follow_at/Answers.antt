use Rattle.std.proofs.Common.{◌≡◌, ℕ, ◌+◌, ◌-◌, ◌≤◌, List, ◌++◌, length, take, sym, ap, ◌∙◌, arith}
use Rattle.std.proofs.lemmas.List.{drop-drop}
use borrow.Rule.Slice.PartMut.{put_mid}
use Rattle.sweep_places.specs.Following.{part_at, with_part}
use Rattle.sweep_places.proofs.Parts.{part_is}
use Rattle.sweep_places.proofs.places.follow_at.Goals as goal

put_is : (table part : List ℕ) (entry : ℕ) → put_mid entry (entry + 256 - entry) table part ≡ with_part table entry part
put_is table part entry =
    let k : entry + 256 - entry ≡ 256 = omega arith in
    ap (λ j. put_mid entry j table part) k ∙ ap (λ rest. take entry table ++ (part ++ rest)) (drop-drop 256 entry table)

put_part : (table part : List ℕ) (entry : ℕ) → entry + 256 ≤ length table → length part ≡ 256
    → part_at (put_mid entry (entry + 256 - entry) table part) entry ≡ part
put_part table part entry inside size =
    ap (λ l. part_at l entry) (put_is table part entry) ∙ part_is table part entry (omega arith) size

pub returns-clause-trail : goal.returns-clause-trail
returns-clause-trail c =
    let k : c.args.entry + 256 - c.args.entry ≡ 256 = omega arith in
    let new = put_part c.args.table.now c.follow.new.places c.args.entry c.requires.inside c.follow.ensures.places in
    rw (new, ← k) c.follow.ensures.trail

pub returns-clause-ends : goal.returns-clause-ends
returns-clause-ends c =
    let new = put_part c.args.table.now c.follow.new.places c.args.entry c.requires.inside c.follow.ensures.places in
    rw new c.follow.ensures.ends

pub returns-clause-anyhow : goal.returns-clause-anyhow
returns-clause-anyhow c =
    let k : c.args.entry + 256 - c.args.entry ≡ 256 = omega arith in
    let new = put_part c.args.table.now c.follow.new.places c.args.entry c.requires.inside c.follow.ensures.places in
    rw (new, ← k) c.follow.ensures.anyhow

pub returns-clause-around : goal.returns-clause-around
returns-clause-around c =
    put_is c.args.table.now c.follow.new.places c.args.entry
    ∙ ap (with_part c.args.table.now c.args.entry)
    (sym (put_part c.args.table.now c.follow.new.places c.args.entry c.requires.inside c.follow.ensures.places))
