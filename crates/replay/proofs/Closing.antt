-- What a flush leaves of what the lines left.
use Rattle.std.proofs.Common.{ℕ, List, Option, Some, None, ◌∙◌}
use Rattle.std.specs.Io.KnownBytes.{Keeps, Appends}
use Rattle.trace_types.specs.declared.limits.Limits.{Limits}
use Rattle.replay.specs.Rows.{Read, Wrote, Progress}
use Rattle.replay.proofs.Performing.{wrote_on}

pub appends_keep : (a b c : Option (List ℕ)) (x : List ℕ) → Appends a b x → Keeps b c → Appends a c x
appends_keep None b c x p k = tt
appends_keep (Some xs) None c x p k = absurd p
appends_keep (Some xs) (Some ys) None x p k = absurd k
appends_keep (Some xs) (Some ys) (Some zs) x p k = k ∙ p

pub progress_kept : (limits : Limits) (bytes : List ℕ) (source : Read) (out : Wrote) (after : Option (List ℕ)) (flushed : Option ℕ) (faults : ℕ) →
    Progress limits bytes source out → Keeps out.after after → Progress limits bytes source (wrote_on out after flushed faults)
progress_kept limits bytes source out after flushed faults p k = record {
  taken = p.taken;
  consumed = p.consumed;
  text = p.text;
  written = appends_keep out.before out.after after p.text p.written k;
  front = p.front;
  least = p.least;
}
