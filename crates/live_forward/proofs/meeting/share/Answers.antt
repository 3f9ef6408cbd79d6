use Rattle.std.proofs.Common.{◌≡◌, ℕ, ◌++◌, Contains, sym, subst}
use Rattle.std.proofs.lemmas.List.Elements.{Contains-append_left, Contains-append_right}
use Rattle.live_forward.specs.declared.view.View.{View}
use Rattle.live_forward.specs.Forwarding.{split_off, without_rights, joined}
use Rattle.live_forward.proofs.meeting.share.Goals as goal

-- what a view has seen goes on to be seen by what is made of it
split_saw : (v w : View) (p : ℕ × ℕ) → w ≡ split_off v → Contains v.seen p → Contains w.seen p
split_saw v w p is h = subst (λ (x : View). Contains x.seen p) (sym is) (Contains-append_right v.own v.seen p h)

left_saw : (v w : View) (p : ℕ × ℕ) → w ≡ without_rights v → Contains v.seen p → Contains w.seen p
left_saw v w p is h = subst (λ (x : View). Contains x.seen p) (sym is) h

joined_saw : (v u w : View) (p : ℕ × ℕ) → w ≡ joined v u → Contains u.seen p → Contains w.seen p
joined_saw v u w p is h = subst (λ (x : View). Contains x.seen p) (sym is) (Contains-append_right v.seen (u.own ++ u.seen) p (Contains-append_right u.own u.seen p h))

still_saw : (v u w : View) (p : ℕ × ℕ) → w ≡ joined v u → Contains v.seen p → Contains w.seen p
still_saw v u w p is h = subst (λ (x : View). Contains x.seen p) (sym is) (Contains-append_left v.seen (u.own ++ u.seen) p h)

pub returns-clause-one_seen : goal.returns-clause-one_seen
returns-clause-one_seen c p h =
    let all = c.split-all.result.view in
    let gathered = c.join.new.seat.view in
    let kept = c.split-back.new.seat.view in
    joined_saw c.split-copy.new.seat.view kept c.join-3.new.seat.view p c.join-3.ensures.view
    (left_saw gathered kept p c.split-back.ensures.view
    (still_saw all c.split-copy.result.view gathered p c.join.ensures.view
    (split_saw c.args.one.now.view all p c.split-all.ensures.new_view h)))

pub returns-clause-two_seen : goal.returns-clause-two_seen
returns-clause-two_seen c p h =
    let copy = c.split-copy.result.view in
    let gathered = c.join.new.seat.view in
    let back = c.split-back.result.view in
    joined_saw c.split-all.new.seat.view back c.join-2.new.seat.view p c.join-2.ensures.view
    (split_saw gathered back p c.split-back.ensures.new_view
    (joined_saw c.split-all.result.view copy gathered p c.join.ensures.view
    (split_saw c.args.two.now.view copy p c.split-copy.ensures.new_view h)))
