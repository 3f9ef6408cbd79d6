use Rattle.std.proofs.Common.{◌≡◌, ◌∙◌, ◌++◌, ◌∷◌, [], List, ℕ, append_assoc, codes, decimal}
use Rattle.std.proofs.lemmas.Result.{IfOk-weaker}
use Rattle.std.specs.String.{string_bytes}
use Rattle.trace_types.specs.declared.fault.Fault.{Fault}
use Rattle.trace_types.specs.Words.{fault_text}
use Rattle.replay.specs.Texts.{refusal}
use Rattle.replay.proofs.report.refusal_text.Goals as goal

joined : (n : ℕ) (f : Fault) (text : List ℕ) → text ≡ fault_text f →
    codes "heapreplay: line " ++ (decimal n ++ (codes ": " ++ (text ++ 10 ∷ []))) ≡ refusal n f
unfolding refusal
joined n f text e = rw e (simp append_assoc)

pub returns : goal.returns
returns c = IfOk-weaker c.format.result
    (λ s. string_bytes s ≡ codes "heapreplay: line " ++ (decimal c.args.number ++ (codes ": " ++ (c.text-text.result.now ++ 10 ∷ []))))
    (λ s. string_bytes s ≡ refusal c.args.number c.args.fault)
    (λ s e. e ∙ joined c.args.number c.args.fault c.text-text.result.now c.text-text.ensures) c.format.ensures.ok
