-- The headline, from what the run left and what was reported.
use Rattle.std.proofs.Common.{◌≡◌, ℕ, List, [], take, drop, Option, Some, None, inl, inr, refl, sym, ap, subst, append-nil}
use Rattle.std.proofs.lemmas.List.{take-append-drop}
use Rattle.std.specs.Io.KnownBytes.{Appends}
use Rattle.trace_types.specs.declared.limits.Limits.{Limits}
use Rattle.trace_types.specs.declared.fault.Fault.{Fault}
use Rattle.trace_types.specs.Lines.{lines_of}
use Rattle.trace_types.proofs.RunLaws.{stopped-front}
use Rattle.trace_types.specs.States.{opening}
use Rattle.heap_store.specs.HeapView.{HeapView}
use Rattle.replay.specs.Built.{run, line_turn}
use Rattle.replay.specs.declared.words.Words.{Words}
use Rattle.replay.specs.Texts.{write_message}
use Rattle.replay.specs.Rows.{Read, Wrote, Due, refused, read_fault, no_memory, Row, Refused as IsRefused, RanOut, Progress}
use Rattle.replay.specs.Ended.{Closed, HasRisen}
use Rattle.replay.specs.Reports.{Untold, Reports}
use Rattle.replay.specs.Headline.{Headline, message, StaysQuiet, due_status, IsComplete}
use Rattle.replay.specs.declared.lines.Ending.{Ending}
use Rattle.replay.specs.declared.lines.Ending.TheVariants.{All, At, ReadFault, WriteFault, NoMemory}
use Rattle.replay.specs.declared.report.Status.{Status}
use Rattle.replay.specs.declared.report.Status.TheVariants.{Done, Refused, Usage, ReadFault as IsReadFault, WriteFault as IsWriteFault, NoMemory as IsNoMemory}
use Rattle.replay.specs.declared.report.Outcome.{Outcome}

module _ (limits : Limits) (bytes : List ℕ) (source : Read) (out err : Wrote) (outcome : Outcome) where
  -- what stands at a status, once the outcome's is known
  at_status : (s : Status) (h : Option HeapView) → outcome.status ≡ s → outcome.heap ≡ h → Headline s limits bytes h source out err →
      Headline outcome.status limits bytes outcome.heap source out err
  at_status s h e f head =
      subst (λ (x : Status). Headline x limits bytes outcome.heap source out err) (sym e)
      (subst (λ (x : Option HeapView). Headline s limits bytes x source out err) (sym f) head)

  -- a message that could not be written
  untold : (due : Due) → Row due limits bytes source out → Progress limits bytes source out → Untold (message due) outcome err →
      Headline outcome.status limits bytes outcome.heap source out err
  untold due row progress u = at_status IsWriteFault None u.status u.heap (
    record {
      rose = inr u.rose;
      progress = progress;
      quiet = λ still. absurd (still u.rose);
      both = λ _ _. (take u.count (message due), u.text, inr (due, (u.count, u.some_left, refl)));
      only = λ _ _. (due, row, take u.count (message due), u.text, (u.count, u.some_left, refl));
    },
    refl,
  )

  -- a run that was refused has run through its first lines
  ran_out : (n : ℕ) (f : Fault) → IsRefused limits bytes n f source out → RanOut limits bytes source out
  ran_out n f r =
      let front = stopped-front (line_turn limits) (lines_of bytes) (opening limits.generations) 1 n f r.ends in
      record {
        first = front.0;
        others = front.1;
        lines = front.2;
        all = front.3;
        text = subst (λ (x : List ℕ). Appends out.before out.after x) front.4 r.text;
      }

  pub headline : (ending : Ending) → Closed ending limits bytes source out → Progress limits bytes source out → HasRisen ending source out →
      Reports ending outcome err → Headline outcome.status limits bytes outcome.heap source out err
  headline (All heap) closed progress risen told =
      at_status Done (Some heap) told.status told.heap ((closed.0, told.text), closed.1)
  headline (At n f heap) closed progress risen reports = elim reports [
    | inl t ↦ elim t [
      | inl told ↦ at_status Refused (Some heap) told.status told.heap (n, f, (closed.0, told.text), closed.1)
      | inr u ↦ untold (refused n f) closed.0 progress u
    ]
    | inr t ↦ elim t [
      | inl told ↦ at_status IsNoMemory None told.status told.heap ((ran_out n f closed.0, told.text), refl)
      | inr u ↦ untold no_memory (ran_out n f closed.0) progress u
    ]
  ]
  headline ReadFault closed progress risen reports = elim reports [
    | inl told ↦ at_status IsReadFault None told.status told.heap ((closed, told.text), refl)
    | inr u ↦ untold read_fault closed progress u
  ]
  headline WriteFault closed progress risen reports = elim reports [
    | inl told ↦ at_status IsWriteFault None told.status told.heap (
      record {
        rose = inl risen;
        progress = progress;
        quiet = λ _. told.text;
        both = λ _ _. (write_message, told.text, inl ([], sym (append-nil write_message)));
        only = λ _ still. absurd (still risen);
      },
      refl,
    )
    | inr u ↦ at_status IsWriteFault None u.status u.heap (
      record {
        rose = inl risen;
        progress = progress;
        quiet = λ still. absurd (still u.rose);
        both = λ _ _. (take u.count write_message, u.text, inl (drop u.count write_message, sym (take-append-drop u.count write_message)));
        only = λ _ still. absurd (still risen);
      },
      refl,
    )
  ]
  headline NoMemory closed progress risen reports = elim reports [
    | inl told ↦ at_status IsNoMemory None told.status told.heap ((closed, told.text), refl)
    | inr u ↦ untold no_memory closed progress u
  ]

-- where nothing failed
pub completed : (status : Status) (limits : Limits) (bytes : List ℕ) (heap : Option HeapView) (source : Read) (out err : Wrote) →
    Headline status limits bytes heap source out err → StaysQuiet source.faults source.faults_after →
    StaysQuiet out.faults out.faults_after → StaysQuiet err.faults err.faults_after → IsComplete status (run limits bytes).stop
completed Done limits bytes heap source out err h r w e = inl (sym (ap due_status h.0.0.all))
completed Refused limits bytes heap source out err h r w e = inl (sym (ap due_status h.2.0.ends))
completed Usage limits bytes heap source out err h r w e = absurd h
completed IsReadFault limits bytes heap source out err h r w e = absurd (r h.0.0.rose)
completed IsWriteFault limits bytes heap source out err h r w e = absurd (elim h.0.rose [ inl x ↦ w x | inr x ↦ e x ])
completed IsNoMemory limits bytes heap source out err h r w e = inr refl

-- the limits of words that are the same
pub same_words : (v w : Words) → ◌≡◌ {A = Option Words} (Some v) (Some w) → v.limits ≡ w.limits
same_words v w e = cc
