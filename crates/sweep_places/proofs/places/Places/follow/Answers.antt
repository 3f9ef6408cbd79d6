use Rattle.std.proofs.Common.{◌≡◌, ℕ, ◌-◌, ◌++◌, length, take, drop, sym, subst, ap, ◌∙◌, arith}
use Rattle.std.proofs.lemmas.List.{take_at}
use Rattle.std.proofs.lemmas.Option.{IfSome_then}
use Rattle.std.proofs.lemmas.Result.{IfOk-weaker}
use Rattle.sweep_share.specs.Shares.{start_in}
use Rattle.sweep_share.specs.Following.{ShareTrail, share_trail}
use Rattle.sweep_places.specs.Places.{ArePlaces}
use Rattle.sweep_places.specs.Following.{part_at}
use Rattle.sweep_places.proofs.Following.{IsTold, if_some, lies_inside, ok_each, told}
use Rattle.sweep_places.proofs.places.Places.follow.Goals as goal

pub overflow_sub-entry : goal.overflow_sub-entry
overflow_sub-entry c =
    (lies_inside c.args.share.now _ c.args.self.now c.self.inside.first c.self.inside.table.items c.args.object c.args.from
    c.self.view_is c.self.invariant.0 c.requires.one c.requires.from c.requires.shared c.requires.object).0

pub follow_at-followed-requires-clause-inside : goal.follow_at-followed-requires-clause-inside
follow_at-followed-requires-clause-inside c =
    let inside = lies_inside c.args.share.now _ c.args.self.now c.self.inside.first c.self.inside.table.items c.args.object c.args.from
    c.self.view_is c.self.invariant.0 c.requires.one c.requires.from c.requires.shared c.requires.object in
    omega (arith, inside.0, inside.1, ap length c.deref_mut.ensures.value)

-- what the share had before, and has afterwards
abbrev old : goal.After-self-1 → ShareTrail
old c =
    share_trail c.args.share.now (part_at c.deref_mut.result.now (c.args.from.first_word - c.self.inside.first))
    c.self.inside.log.own.items c.self.inside.log.waiting.items

abbrev new : goal.After-self-1 → ShareTrail
new c =
    share_trail c.follow_at-followed.new.share
    (part_at c.follow_at-followed.new.table (c.args.from.first_word - c.self.inside.first))
    c.follow_at-followed.new.log.own.items c.follow_at-followed.new.log.waiting.items

-- what the share says, said of the sweeper
told_of : (c : goal.After-self-1) (g : ℕ)
    → IsTold g c.args.self.now c.self.inside.directory.value c.self.inside.number c.self.inside.first (old c)
    c.args.object c.args.copy (new c) c.follow_at-followed.new.table
told_of c g =
    told c.args.share.now _ c.args.self.now c.self.inside.first c.deref_mut.result.now c.args.object c.args.from c.self.view_is
    (subst (λ l. ArePlaces c.self.inside.directory.value c.self.inside.number c.self.inside.first l c.self.inside.log.own.items)
    (sym c.deref_mut.ensures.value) c.self.invariant.0)
    c.requires.one c.requires.from c.requires.shared c.requires.object g c.args.copy c.follow_at-followed.new.share
    c.follow_at-followed.new.table c.follow_at-followed.new.log.own.items c.follow_at-followed.new.log.waiting.items
    c.follow_at-followed.ensures.around (omega (arith, c.follow_at-followed.ensures.count))

pub invariant_of-self : goal.invariant_of-self
invariant_of-self c =
    let table = c.follow_at-followed.new.table in
    let whole : take c.self.inside.table.len (table ++ drop (length table) c.self.inside.table.items) ≡ table =
    take_at table _ c.self.inside.table.len (c.follow_at-followed.auto.table ∙ c.deref_mut.ensures.len) in
    let y = c.requires.copy in
    let trail = if_some (start_in c.args.share.now c.args.copy) _ y.0 y.1 c.follow_at-followed.ensures.anyhow in (
      subst (λ l. ArePlaces c.self.inside.directory.value c.self.inside.number c.self.inside.first l
          c.follow_at-followed.new.log.own.items) (sym whole) ((told_of c y.0.generation).anyhow trail).1,
      c.follow_at-followed.ensures.count,
    )

pub returns-clause-trail : goal.returns-clause-trail
returns-clause-trail c =
    IfOk-weaker c.follow_at-followed.result _ _
    (λ e h. IfSome_then (start_in c.args.share.now c.args.copy) h
    (λ y. (told_of c y.generation).trail e.object e.copy e.car_swept))
    c.follow_at-followed.ensures.trail

pub returns-clause-ends : goal.returns-clause-ends
returns-clause-ends c =
    let y = c.requires.copy in
    ok_each c.follow_at-followed.result _ _ _
    (λ e h. (told_of c y.0.generation).ends e.object e.copy e.car_swept
    (if_some (start_in c.args.share.now c.args.copy) _ y.0 y.1 h))
    c.follow_at-followed.ensures.trail c.follow_at-followed.ensures.ends

pub returns-clause-anyhow : goal.returns-clause-anyhow
returns-clause-anyhow c =
    IfSome_then (start_in c.args.share.now c.args.copy) c.follow_at-followed.ensures.anyhow
    (λ y h. ((told_of c y.generation).anyhow h).0)
