use Rattle.std.proofs.Common.{◌≡◌, ℕ, suc, ◌+◌, ◌<◌, List, [], ◌∷◌, length, refl, sym, ◌∙◌, ap, subst, arith, inl, inr, length-append}
use Rattle.std.specs.List.{sum_by}
use Rattle.std.proofs.lemmas.Bool.{cases_lt}
use Rattle.std.proofs.lemmas.List.Sums.{sum_by-cons}
use Rattle.gc_mail.specs.declared.message.Message.{Message}
use Rattle.gc_mail.specs.Recipients.{all_of}
use Rattle.sweeper.specs.Sweepers.{SweeperView}
use Rattle.sweep_rounds.specs.Mails.{box_at}
use Rattle.sweep_rounds.proofs.run.deliver.Goals as goal

-- how many messages there are in all
all_length : (boxes : List (List Message)) → length (all_of boxes) ≡ sum_by length boxes
all_length [] = refl
all_length (box ∷ boxes) =
    length-append box (all_of boxes) ∙ ap (λ n. length box + n) (all_length boxes) ∙ sym (sum_by-cons length box boxes)

-- where there is one it is in some box
some_box : (boxes : List (List Message)) → 0 < sum_by length boxes
    → (k : ℕ) × (k < length boxes) × (0 < length (box_at boxes k))
some_box [] some = absurd (omega (arith, some))
some_box (box ∷ boxes) some = elim (cases_lt 0 (length box)) [
  | inl here ↦ (0, omega arith, here)
  | inr none ↦
      let both : sum_by length (box ∷ boxes) ≡ length box + sum_by length boxes = sum_by-cons length box boxes in
      let more = some_box boxes (omega (arith, some, none, both)) in
      (suc more.0, omega (arith, more.1), more.2)
]

pub returns-clause-some : goal.returns-clause-some
returns-clause-some g c = λ some.
    let count_is : c.in_ok-count.count ≡ sum_by length c.in_ok-outboxes.outboxes.items =
    c.in_ok-count.ensures ∙ ap (sum_by length) c.deref.ensures.value in
    let r = some_box c.in_ok-outboxes.outboxes.items (omega (arith, some, count_is)) in
    let inside : r.0 < length c.args.sweepers.now = omega (arith, r.1, c.in_ok-outboxes.ensures.count) in (
      r.0,
      inside,
      λ (d : SweeperView). subst (λ (l : List Message). 0 < length l) (c.in_ok-outboxes.ensures.taken r.0 d inside) r.2,
    )

pub returns-clause-mail : goal.returns-clause-mail
returns-clause-mail g c =
    let count_is : c.in_ok-count.count ≡ sum_by length c.in_ok-outboxes.outboxes.items =
    c.in_ok-count.ensures ∙ ap (sum_by length) c.deref.ensures.value in
    let same = all_length c.in_ok-outboxes.outboxes.items in
    let mailed = c.in_ok-inboxes.ensures.mail in
    omega (arith, count_is, same, mailed)
