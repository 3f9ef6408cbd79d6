use Rattle.std.proofs.Common.{◌≡◌, ℕ, ◌+◌, List, [], ◌∷◌, ◌++◌, append_assoc, append-nil, length, length-append, sym, ◌∙◌, ap, subst, arith}
use Rattle.gc_mail.specs.declared.message.Message.{Message}
use Rattle.gc_mail.specs.Recipients.{all_of, IsDelivered, AlsoDelivers}

-- one message more of the same outbox
pub delivered_more : (n : ℕ) (sent some : List Message) (m : Message) (inboxes : List (List Message)) → IsDelivered n (sent ++ some ++ m ∷ []) inboxes → IsDelivered n (sent ++ (some ++ m ∷ [])) inboxes
delivered_more n sent some m inboxes h = subst (λ l. IsDelivered n l inboxes) (append_assoc sent some (m ∷ [])) h

pub all_of-push : (os : List (List Message)) (o : List Message) → all_of os ++ o ≡ all_of (os ++ o ∷ [])
all_of-push [] o = sym (append-nil o)
all_of-push (p ∷ os) o = append_assoc p (all_of os) o ∙ ap (λ l. p ++ l) (all_of-push os o)

-- one outbox more
pub delivered_push : (n : ℕ) (os : List (List Message)) (o : List Message) (inboxes : List (List Message)) → IsDelivered n (all_of os ++ o) inboxes → IsDelivered n (all_of (os ++ o ∷ [])) inboxes
delivered_push n os o inboxes h = subst (λ l. IsDelivered n l inboxes) (all_of-push os o) h

pub length-all_of-push : (os : List (List Message)) (o : List Message) → length (all_of (os ++ o ∷ [])) ≡ length (all_of os) + length o
length-all_of-push os o = ap length (sym (all_of-push os o)) ∙ length-append (all_of os) o

-- of the messages `whole`, those before `left` were delivered, and each of them was one step
abbrev pub IsDeliveredUpTo : ℕ → List Message → List Message → List (List Message) → List (List Message) → ℕ → ℕ → Type 0
IsDeliveredUpTo n whole left old new before now =
    (done : List Message) × (whole ≡ done ++ left) × AlsoDelivers n done old new × (now ≡ before + length done)

-- at the start all are left
pub up_to-none :
    (n : ℕ) (whole left : List Message) (inboxes : List (List Message)) (mail : ℕ) → left ≡ whole →
    IsDeliveredUpTo n whole left inboxes inboxes mail mail
up_to-none n whole left inboxes mail e = (
  [],
  sym e,
  λ sent h. subst (λ l. IsDelivered n l inboxes) (sym (append-nil sent)) h,
  omega arith,
)

-- one message more
pub up_to-more :
    (n : ℕ) (whole left rest : List Message) (m : Message) (old new newer : List (List Message)) (before now later : ℕ) →
    left ≡ m ∷ rest → AlsoDelivers n (m ∷ []) new newer → later ≡ now + 1 →
    IsDeliveredUpTo n whole left old new before now → IsDeliveredUpTo n whole rest old newer before later
up_to-more n whole left rest m old new newer before now later e put step (done, parts, delivered, steps) = (
  done ++ m ∷ [],
  parts ∙ ap (λ l. done ++ l) e ∙ sym (append_assoc done (m ∷ []) rest),
  λ sent h. delivered_more n sent done m newer (put (sent ++ done) (delivered sent h)),
  grind (arith, length-append, steps, step),
)
