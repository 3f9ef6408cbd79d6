-- What holds while lines are performed, and what follows where they end.
use Rattle.std.proofs.Common.{◌≡◌, ◌≢◌, ◌⊎◌, ℕ, ◌+◌, ◌-◌, ◌<◌, ◌≤◌, List, [], ◌∷◌, ◌++◌, length, take, drop, Option, Some, None, Result, Ok, Err, true, false, inl, inr, refl, sym, ◌∙◌, ap, subst, arith, append_assoc, append-nil, length-append}
use Rattle.std.specs.Io.KnownBytes.{Consumes, Appends, IsAtEnd}
use Rattle.gc_io.specs.Outside.{StaysFlushed, Rose}
use Rattle.gc_io.specs.declared.traits.Failed.{Failed}
use Rattle.trace_types.specs.declared.limits.Limits.{Limits}
use Rattle.trace_types.specs.declared.fault.Fault.{Fault}
use Rattle.trace_types.specs.declared.fault.Fault.TheVariants.{TooLong}
use Rattle.trace_types.specs.Lines.{head_line, lines_of, whole_of, first_of, IsPlain}
use Rattle.trace_types.specs.Run.{Ran, all, after_text, run_from}
use Rattle.trace_types.proofs.LineLaws.{lines-empty, lines-newline, lines-last, lines-whole, lines-front, whole-ends, whole-plain, whole-empty, head-long}
use Rattle.trace_types.proofs.RunLaws.{run-nil, run-goes, run-stops, run-append, text-front}
use Rattle.trace_text.specs.Reader.{Reader}
use Rattle.trace_text.specs.Next.{Nexts, GivesLine, GivesTooLong, GivesEnd, KeepsAll}
use Rattle.trace_text.specs.declared.reader.Next.{Next}
use Rattle.std.proofs.lemmas.List.{take-append-drop, take-append-le}
use Rattle.std.proofs.lemmas.Bool.{lt-ltb}
use Rattle.trace_types.specs.States.{State, opening}
use Rattle.heap_store.specs.HeapView.{HeapView}
use Rattle.heap_store.specs.Stands.{Stands}
use Rattle.replay.specs.Built.{line_turn, run, run_lines}
use Rattle.replay.specs.Engine.{EngineView, IsFront}
use Rattle.replay.specs.Rows.{Read, Wrote, early, Progress}
use Rattle.replay.specs.Ended.{Ended}
use Rattle.replay.specs.declared.lines.Ending.TheVariants.{All, At, ReadFault, NoMemory}
use Rattle.replay.proofs.Told.{appends_twice, appends_nothing, consumed_twice, consumed_none, flushed_none, flushed_twice}

pub record Performing (limits : Limits) (source : Read) (out : Wrote) (reader : Reader) (engine : EngineView) (number : ℕ) : Type 0 where
  -- the bytes of the lines that were given
  pub given : List ℕ
  pub consumed : Consumes source.before source.after (given ++ reader.held)
  pub state : State
  pub text : List ℕ
  pub ran : run_lines limits (lines_of given) ≡ all state text
  pub stands : Stands engine.heap state
  pub newest : engine.newest < number
  pub count : number ≡ 1 + length (lines_of given)
  pub within : number ≤ limits.max_lines + 1
  pub written : Appends out.before out.after text
  pub flushed : StaysFlushed out.flushed out.flushed_after
  -- The last one may lack its newline, and then nothing is left.
  pub whole : (whole_of given ≡ given) ⊎ ((reader.ended ≡ true) × (reader.held ≡ []))
  pub at_end : reader.ended ≡ true → IsAtEnd source.after
  pub read_later : source.faults ≤ source.faults_after
  pub write_later : out.faults ≤ out.faults_after

-- what is told after what is told
pub told : (after : Option (List ℕ)) (taken bytes : List ℕ) → Consumes (Some bytes) after taken →
    (rest : List ℕ) × (after ≡ Some rest) × (bytes ≡ taken ++ rest)
told None taken bytes c = absurd c
told (Some rest) taken bytes c = (rest, refl, c)

at_end_told : (after : Option (List ℕ)) (rest : List ℕ) → after ≡ Some rest → IsAtEnd after → rest ≡ []
at_end_told None rest e h = cc
at_end_told (Some r) rest e h = let same : r ≡ rest = cc in sym same ∙ h

-- The lines go on where a newline ended the first ones, or nothing follows.
pub lines_on : (given more : List ℕ) → (whole_of given ≡ given) ⊎ (more ≡ []) → lines_of (given ++ more) ≡ lines_of given ++ lines_of more
lines_on given more (inl whole) =
    subst (λ (w : List ℕ). lines_of (w ++ more) ≡ lines_of w ++ lines_of more) whole (lines-whole given more)
lines_on given more (inr none) = rw (none, lines-empty, append-nil, append-nil) refl

-- The output has at least the text of the whole lines of a front.
pub least_of_all : (limits : Limits) (bytes taken rest : List ℕ) → bytes ≡ taken ++ rest →
    IsFront (run limits (whole_of (early taken))).text (run limits bytes).text
least_of_all limits bytes taken rest e =
    let k = length taken - 4096 in
    let cut : bytes ≡ take k taken ++ (drop k taken ++ rest) =
    e ∙ ap (λ (x : List ℕ). x ++ rest) (sym (take-append-drop k taken)) ∙ append_assoc (take k taken) (drop k taken) rest in
    let lines = lines-front (take k taken) (drop k taken ++ rest) in
    let texts = text-front (line_turn limits) (lines_of (whole_of (take k taken))) lines.0 (opening limits.generations) 1 in
    (texts.0, ap (λ (ls : List (List ℕ)). (run_lines limits ls).text) (ap lines_of cut ∙ lines.1) ∙ texts.1)

pub least_of_given : (limits : Limits) (given more : List ℕ) (s : State) (text : List ℕ) → run_lines limits (lines_of given) ≡ all s text →
    length more ≤ 4096 → IsFront (run limits (whole_of (early (given ++ more)))).text text
least_of_given limits given more s text ran few =
    let k = length (given ++ more) - 4096 in
    let le : k ≤ length given = omega (arith, length-append given more) in
    let front : take k (given ++ more) ≡ take k given = take-append-le k given more le in
    let lines = lines-front (take k given) (drop k given) in
    let texts = text-front (line_turn limits) (lines_of (whole_of (take k given))) lines.0 (opening limits.generations) 1 in
    let all_lines : lines_of given ≡ lines_of (whole_of (take k given)) ++ lines.0 = ap lines_of (sym (take-append-drop k given)) ∙ lines.1 in (
      texts.0,
      sym (ap (λ (x : Ran State). x.text) ran) ∙ ap (λ (ls : List (List ℕ)). (run_lines limits ls).text) all_lines
          ∙ texts.1 ∙ rw front refl,
    )

-- the source after one more call, and the output after one more
abbrev pub read_on : Read → Option (List ℕ) → ℕ → Read
read_on source after faults = record { before = source.before; after = after; faults = source.faults; faults_after = faults }

abbrev pub wrote_on : Wrote → Option (List ℕ) → Option ℕ → ℕ → Wrote
wrote_on out after flushed faults = record { before = out.before; after = after; flushed = out.flushed; flushed_after = flushed; faults = out.faults; faults_after = faults }

-- where the reader has answered
module _ (limits : Limits) (source : Read) (out : Wrote) (reader : Reader) (engine : EngineView) (number : ℕ)
    (r : Performing limits source out reader engine number)
    (after : Option (List ℕ)) (faults : ℕ) (result : Result Next Failed) (new : Reader) (n : Nexts source.after after result reader new)
    (at_end : (reader.ended ≡ true → IsAtEnd source.after) → new.ended ≡ true → IsAtEnd after) (stays : reader.ended ≡ true → new.ended ≡ true) where
  -- the bytes that the answer is about
  abbrev fresh : List ℕ
  fresh = reader.held ++ n.taken

  consumed_all : Consumes source.before after (r.given ++ fresh)
  consumed_all = rw append_assoc at (consumed_twice source.before source.after after (r.given ++ reader.held) n.taken r.consumed n.consumed)

  told_all : (bytes : List ℕ) → source.before ≡ Some bytes → (rest : List ℕ) × (after ≡ Some rest) × (bytes ≡ (r.given ++ fresh) ++ rest)
  told_all bytes e = told after (r.given ++ fresh) bytes (subst (λ (b : Option (List ℕ)). Consumes b after (r.given ++ fresh)) e consumed_all)

  going_on : (rest : List ℕ) → after ≡ Some rest → (whole_of r.given ≡ r.given) ⊎ (fresh ++ rest ≡ [])
  going_on rest e = elim r.whole [
    | inl w ↦ inl w
    | inr w ↦
        let none : n.taken ≡ [] = elim n.asked [ inl t ↦ t | inr h ↦ absurd (let bad : true ≡ false = sym w.0 ∙ h.going in cc) ] in
        let ends : rest ≡ [] = at_end_told after rest e (at_end r.at_end (stays w.0)) in
        inr (rw (none, w.1, ends) refl)
  ]

  lines_all : (bytes : List ℕ) (t : (rest : List ℕ) × (after ≡ Some rest) × (bytes ≡ (r.given ++ fresh) ++ rest)) →
      lines_of bytes ≡ lines_of r.given ++ lines_of (fresh ++ t.0)
  lines_all bytes t = ap lines_of (t.2 ∙ append_assoc r.given fresh t.0) ∙ lines_on r.given (fresh ++ t.0) (going_on t.0 t.1)

  run_all : (bytes : List ℕ) (t : (rest : List ℕ) × (after ≡ Some rest) × (bytes ≡ (r.given ++ fresh) ++ rest)) →
      run limits bytes ≡ after_text r.text (run_from (line_turn limits) r.state number (lines_of (fresh ++ t.0)))
  run_all bytes t =
      ap (run_lines limits) (lines_all bytes t)
      ∙ run-append (line_turn limits) (lines_of r.given) (lines_of (fresh ++ t.0)) (opening limits.generations) 1 r.state r.text r.ran
      ∙ rw (← r.count) refl

  consumed_told : (bytes : List ℕ) → source.before ≡ Some bytes → Consumes (Some bytes) after (r.given ++ fresh)
  consumed_told bytes e = subst (λ (b : Option (List ℕ)). Consumes b after (r.given ++ fresh)) e consumed_all

  -- all of the text is there
  progress_full : (bytes : List ℕ) → source.before ≡ Some bytes → (run limits bytes).text ≡ r.text → Progress limits bytes (read_on source after faults) out
  progress_full bytes e same =
      let t = told_all bytes e in
      record {
        taken = r.given ++ fresh;
        consumed = consumed_told bytes e;
        text = (run limits bytes).text;
        written = subst (λ (x : List ℕ). Appends out.before out.after x) (sym same) r.written;
        front = ([], sym (append-nil _));
        least = least_of_all limits bytes (r.given ++ fresh) t.0 t.2;
      }

  -- the text of the lines that were given is there
  progress_given : (bytes : List ℕ) → source.before ≡ Some bytes → length fresh ≤ 4096 → Progress limits bytes (read_on source after faults) out
  progress_given bytes e few =
      let t = told_all bytes e in
      record {
        taken = r.given ++ fresh;
        consumed = consumed_told bytes e;
        text = r.text;
        written = r.written;
        front = (_, ap (λ (x : Ran State). x.text) (run_all bytes t));
        least = least_of_given limits r.given fresh r.state r.text r.ran few;
      }

  pub end_rows : GivesEnd fresh new → (heap : HeapView) → Stands heap r.state → (bytes : List ℕ) → source.before ≡ Some bytes →
      Ended (All heap) limits bytes (read_on source after faults) out × Progress limits bytes (read_on source after faults) out
  end_rows a heap stands bytes e =
      let t = told_all bytes e in
      let ends : IsAtEnd after = at_end r.at_end a.ended in
      let nothing : t.0 ≡ [] = at_end_told after t.0 t.1 ends in
      let none : lines_of (fresh ++ t.0) ≡ [] = rw (a.none, nothing) lines-empty in
      let runs : run limits bytes ≡ all r.state r.text =
      run_all bytes t ∙ ap (λ (ls : List (List ℕ)). after_text r.text (run_from (line_turn limits) r.state number ls)) none
      ∙ ap (after_text r.text) (run-nil (line_turn limits) r.state number) ∙ ap (all r.state) (append-nil r.text) in
      let text : (run limits bytes).text ≡ r.text = ap (λ (x : Ran State). x.text) runs in (
        (
          ap (λ (x : Ran State). x.stop) runs,
          t.1 ∙ ap (λ (x : List ℕ). Some x) nothing,
          subst (λ (x : List ℕ). Appends out.before out.after x) (sym text) r.written,
          subst (λ (s : State). Stands heap s) (sym (ap (λ (x : Ran State). x.state) runs)) stands,
        ),
        progress_full bytes e text,
      )

  -- where the run stops at this line
  stopped : (bytes : List ℕ) (e : source.before ≡ Some bytes) (f : Fault) (heap : HeapView) → Stands heap r.state →
      run_from (line_turn limits) r.state number (lines_of (fresh ++ (told_all bytes e).0)) ≡ record { state = r.state; text = []; stop = Some (number, f) } →
      Ended (At number f heap) limits bytes (read_on source after faults) out × Progress limits bytes (read_on source after faults) out
  stopped bytes e f heap stands stops =
      let t = told_all bytes e in
      let runs = run_all bytes t ∙ ap (after_text r.text) stops in
      let text : (run limits bytes).text ≡ r.text = ap (λ (x : Ran State). x.text) runs ∙ append-nil r.text in (
        (
          ap (λ (x : Ran State). x.stop) runs,
          subst (λ (x : List ℕ). Appends out.before out.after x) (sym text) r.written,
          subst (λ (s : State). Stands heap s) (sym (ap (λ (x : Ran State). x.state) runs)) stands,
        ),
        progress_full bytes e text,
      )

  long_turn : (l : List ℕ) → 1024 < length l → line_turn limits r.state number l ≡ Err TooLong
  long_turn l long = rw (lt-ltb 1024 (length l) long) refl

  long_stops : (ls : List (List ℕ)) → 1024 < length (head_line ls) →
      run_from (line_turn limits) r.state number ls ≡ record { state = r.state; text = []; stop = Some (number, TooLong) }
  long_stops [] long = absurd (omega arith)
  long_stops (l ∷ ls) long = run-stops (line_turn limits) r.state number l ls TooLong (long_turn l long)

  pub long_rows : GivesTooLong fresh new → (heap : HeapView) → Stands heap r.state → (bytes : List ℕ) → source.before ≡ Some bytes →
      Ended (At number TooLong heap) limits bytes (read_on source after faults) out × Progress limits bytes (read_on source after faults) out
  long_rows a heap stands bytes e =
      let rest = (told_all bytes e).0 in
      let head : length (first_of new.held) ≤ length (head_line (lines_of (fresh ++ rest))) = rw a.held (head-long new.held rest) in
      stopped bytes e TooLong heap stands (long_stops (lines_of (fresh ++ rest)) (omega (arith, a.long)))

  pub failed_rows : KeepsAll fresh new → Rose source.faults faults → (bytes : List ℕ) → source.before ≡ Some bytes →
      Ended ReadFault limits bytes (read_on source after faults) out × Progress limits bytes (read_on source after faults) out
  failed_rows a rose bytes e =
      let w : whole_of r.given ≡ r.given = elim r.whole [ inl w ↦ w | inr w ↦ absurd (let bad : true ≡ false = sym (stays w.0) ∙ a.going in cc) ] in
      let plain : IsPlain fresh = subst IsPlain (sym a.held) a.plain in
      let lines : whole_of (r.given ++ fresh) ≡ r.given = whole-plain r.given fresh w plain in
      let runs : run limits (whole_of (r.given ++ fresh)) ≡ all r.state r.text = ap (run limits) lines ∙ r.ran in (
        record {
          rose = rose;
          taken = r.given ++ fresh;
          consumed = consumed_told bytes e;
          all = ap (λ (x : Ran State). x.stop) runs;
          text = subst (λ (x : List ℕ). Appends out.before out.after x) (sym (ap (λ (x : Ran State). x.text) runs)) r.written;
        },
        progress_given bytes e (omega (arith, ap length a.held, a.short)),
      )

  -- What a line that was given is.
  record Lined : Type 0 where
    chunk : List ℕ
    fresh_is : fresh ≡ chunk ++ new.held
    whole_given : whole_of r.given ≡ r.given
    one : lines_of chunk ≡ new.line ∷ []
    window : length fresh ≤ 4096
    whole : (whole_of (r.given ++ chunk) ≡ r.given ++ chunk) ⊎ ((new.ended ≡ true) × (new.held ≡ []))
    first : (rest : List ℕ) → after ≡ Some rest → (ms : List (List ℕ)) × (lines_of (fresh ++ rest) ≡ new.line ∷ ms)

  some_fresh : fresh ≢ [] → whole_of r.given ≡ r.given
  some_fresh some = elim r.whole [
    | inl w ↦ w
    | inr w ↦
        let none : n.taken ≡ [] = elim n.asked [ inl t ↦ t | inr h ↦ absurd (let bad : true ≡ false = sym w.0 ∙ h.going in cc) ] in
        let empty : fresh ≡ [] = rw (none, w.1) refl in
        absurd (some empty)
  ]

  lined : GivesLine fresh new → Lined
  lined a = elim a.either [
    | inl b ↦ record {
      chunk = new.line ++ 10 ∷ [];
      fresh_is = b.bytes_are ∙ sym (append_assoc new.line (10 ∷ []) new.held);
      whole_given = some_fresh (λ none. absurd (omega (arith, ap length (sym b.bytes_are ∙ none), length-append new.line (10 ∷ new.held))));
      one = lines-newline new.line [] a.plain ∙ rw lines-empty refl;
      window = omega (arith, ap length b.bytes_are, b.window);
      whole = inl (rw (← append_assoc) (whole-ends (r.given ++ new.line)));
      first = λ rest e. (
        lines_of (new.held ++ rest),
        ap (λ (x : List ℕ). lines_of (x ++ rest)) b.bytes_are ∙ rw append_assoc (lines-newline new.line (new.held ++ rest) a.plain),
      );
    }
    | inr b ↦ record {
      chunk = new.line;
      fresh_is = b.bytes_are ∙ rw (b.nothing, append-nil) refl;
      whole_given = some_fresh (λ none. b.some (sym b.bytes_are ∙ none));
      one = lines-last new.line a.plain b.some;
      window = omega (arith, ap length b.bytes_are, a.short);
      whole = inr (b.ended, b.nothing);
      first = λ rest e.
          let nothing : rest ≡ [] = at_end_told after rest e (at_end r.at_end b.ended) in
          ([], rw (b.bytes_are, nothing, append-nil) (lines-last new.line a.plain b.some));
    }
  ]

  -- where the line has a fault
  pub fault_rows : GivesLine fresh new → (f : Fault) → line_turn limits r.state number new.line ≡ Err f → (heap : HeapView) → Stands heap r.state →
      (bytes : List ℕ) → source.before ≡ Some bytes →
      Ended (At number f heap) limits bytes (read_on source after faults) out × Progress limits bytes (read_on source after faults) out
  fault_rows a f turn heap stands bytes e =
      let t = told_all bytes e in
      let first = (lined a).first t.0 t.1 in
      stopped bytes e f heap stands (ap (run_from (line_turn limits) r.state number) first.1 ∙ run-stops (line_turn limits) r.state number new.line first.0 f turn)

  -- where memory ran out
  pub memory_rows : GivesLine fresh new → (bytes : List ℕ) → source.before ≡ Some bytes →
      Ended NoMemory limits bytes (read_on source after faults) out × Progress limits bytes (read_on source after faults) out
  memory_rows a bytes e =
      let t = told_all bytes e in (
        record {
          first = lines_of r.given;
          others = lines_of (fresh ++ t.0);
          lines = lines_all bytes t;
          all = ap (λ (x : Ran State). x.stop) r.ran;
          text = subst (λ (x : List ℕ). Appends out.before out.after x) (sym (ap (λ (x : Ran State). x.text) r.ran)) r.written;
        },
        progress_given bytes e (lined a).window,
      )

  -- the run over all is the run up to this line, its text, and more
  pub write_rows : GivesLine fresh new → (p : State × List ℕ) → line_turn limits r.state number new.line ≡ Ok p → (k : ℕ) →
      (written : Option (List ℕ)) (flushed : Option ℕ) (write_faults : ℕ) → Appends out.after written (take k p.1) →
      (bytes : List ℕ) → source.before ≡ Some bytes →
      Progress limits bytes (read_on source after faults) (wrote_on out written flushed write_faults)
  write_rows a p turn k written flushed write_faults appended bytes e =
      let t = told_all bytes e in
      let first = (lined a).first t.0 t.1 in
      let goes = ap (run_from (line_turn limits) r.state number) first.1 ∙ run-goes (line_turn limits) r.state number new.line first.0 p turn in
      let text = ap (λ (x : Ran State). x.text) (run_all bytes t ∙ ap (after_text r.text) goes) in
      let tail = (run_from (line_turn limits) p.0 (number + 1) first.0).text in
      let least = least_of_given limits r.given fresh r.state r.text r.ran (lined a).window in
      record {
        taken = r.given ++ fresh;
        consumed = consumed_told bytes e;
        text = r.text ++ take k p.1;
        written = appends_twice out.before out.after written r.text (take k p.1) r.written appended;
        front = (
          drop k p.1 ++ tail,
          text ∙ ap (λ (x : List ℕ). r.text ++ (x ++ tail)) (sym (take-append-drop k p.1))
              ∙ ap (λ (x : List ℕ). r.text ++ x) (append_assoc (take k p.1) (drop k p.1) tail)
              ∙ sym (append_assoc r.text (take k p.1) (drop k p.1 ++ tail)),
        );
        least = (
          least.0 ++ take k p.1,
          ap (λ (x : List ℕ). x ++ take k p.1) least.1 ∙ append_assoc _ least.0 (take k p.1),
        );
      }

  -- where the line was performed and its text written
  pub running_on : GivesLine fresh new → (p : State × List ℕ) → line_turn limits r.state number new.line ≡ Ok p →
      (performed : EngineView) → Stands performed.heap p.0 → performed.newest ≤ number → number ≤ limits.max_lines →
      (written : Option (List ℕ)) (flushed : Option ℕ) (write_faults : ℕ) → Appends out.after written p.1 →
      StaysFlushed out.flushed_after flushed → source.faults_after ≤ faults → out.faults_after ≤ write_faults →
      Performing limits (read_on source after faults) (wrote_on out written flushed write_faults) new performed (number + 1)
  running_on a p turn performed stands old within written flushed write_faults appended kept reads writes =
      let l = lined a in
      let lines : lines_of (r.given ++ l.chunk) ≡ lines_of r.given ++ new.line ∷ [] = lines_on r.given l.chunk (inl l.whole_given) ∙ ap (λ (ls : List (List ℕ)). lines_of r.given ++ ls) l.one in
      let goes = run-goes (line_turn limits) r.state number new.line [] p turn ∙ ap (after_text p.1) (run-nil (line_turn limits) p.0 (number + 1)) in
      record {
        given = r.given ++ l.chunk;
        consumed = subst (λ (x : List ℕ). Consumes source.before after x)
            (ap (λ (x : List ℕ). r.given ++ x) l.fresh_is ∙ sym (append_assoc r.given l.chunk new.held)) consumed_all;
        state = p.0;
        text = r.text ++ p.1;
        ran = ap (run_lines limits) lines
            ∙ run-append (line_turn limits) (lines_of r.given) (new.line ∷ []) (opening limits.generations) 1 r.state r.text r.ran
            ∙ rw (← r.count) (ap (after_text r.text) goes) ∙ ap (λ (x : List ℕ). all p.0 (r.text ++ x)) (append-nil p.1);
        stands = stands;
        newest = omega arith;
        count = omega (arith, ap length lines, length-append (lines_of r.given) (new.line ∷ []), r.count);
        within = omega arith;
        written = appends_twice out.before out.after written r.text p.1 r.written appended;
        flushed = flushed_twice out.flushed out.flushed_after flushed r.flushed kept;
        whole = l.whole;
        at_end = at_end r.at_end;
        read_later = omega (arith, r.read_later);
        write_later = omega (arith, r.write_later);
      }

-- before anything is read
pub start_rows : (limits : Limits) (before : Option (List ℕ)) (f : ℕ) (out : Option (List ℕ)) (flushed : Option ℕ) (g : ℕ) (bytes : List ℕ) → before ≡ Some bytes →
    Ended NoMemory limits bytes (record { before = before; after = before; faults = f; faults_after = f })
    (record { before = out; after = out; flushed = flushed; flushed_after = flushed; faults = g; faults_after = g })
    × Progress limits bytes (record { before = before; after = before; faults = f; faults_after = f })
    (record { before = out; after = out; flushed = flushed; flushed_after = flushed; faults = g; faults_after = g })
start_rows limits before f out flushed g bytes e =
    let none = run-nil (line_turn limits) (opening limits.generations) 1 in
    let nothing : run limits [] ≡ all (opening limits.generations) [] = ap (run_lines limits) lines-empty ∙ none in (
      record {
        first = [];
        others = lines_of bytes;
        lines = refl;
        all = ap (λ (x : Ran State). x.stop) none;
        text = subst (λ (x : List ℕ). Appends out out x) (sym (ap (λ (x : Ran State). x.text) none)) (appends_nothing out);
      },
      record {
        taken = [];
        consumed = subst (λ (b : Option (List ℕ)). Consumes b before []) e (consumed_none before);
        text = [];
        written = appends_nothing out;
        front = ((run limits bytes).text, refl);
        least = ([], sym (append-nil _ ∙ ap (λ (x : List ℕ). (run limits x).text) whole-empty ∙ ap (λ (x : Ran State). x.text) nothing));
      },
    )

pub start_running : (limits : Limits) (before : Option (List ℕ)) (f : ℕ) (out : Option (List ℕ)) (flushed : Option ℕ) (g : ℕ) (reader : Reader) (engine : EngineView) →
    reader ≡ record { held = []; line = []; ended = false } → Stands engine.heap (opening limits.generations) → engine.newest ≡ 0 →
    Performing limits (record { before = before; after = before; faults = f; faults_after = f })
    (record { before = out; after = out; flushed = flushed; flushed_after = flushed; faults = g; faults_after = g }) reader engine 1
start_running limits before f out flushed g reader engine is stands old =
    let held : reader.held ≡ [] = ap (λ (x : Reader). x.held) is in
    let going : reader.ended ≡ false = ap (λ (x : Reader). x.ended) is in
    record {
      given = [];
      consumed = subst (λ (x : List ℕ). Consumes before before x) (sym held) (consumed_none before);
      state = opening limits.generations;
      text = [];
      ran = ap (run_lines limits) lines-empty ∙ run-nil (line_turn limits) (opening limits.generations) 1;
      stands = stands;
      newest = omega arith;
      count = rw lines-empty refl;
      within = omega arith;
      written = appends_nothing out;
      flushed = flushed_none flushed;
      whole = inl whole-empty;
      at_end = λ ended. absurd (let bad : true ≡ false = sym ended ∙ going in cc);
      read_later = omega arith;
      write_later = omega arith;
    }
