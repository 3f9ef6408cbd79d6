use Rattle.std.proofs.Common.{◌≡◌, ℕ, Option, None, Some, IfSome, sym, ap, subst, ◌∙◌}
use Rattle.territory.specs.Finishing.{target_of}
use Rattle.directory.specs.declared.table.FromSegment.{FromSegment}
use Rattle.directory.specs.Directories.{DirectoryView, found_at}
use Rattle.sweeper.specs.declared.lists.NextPair.{NextPair}
use Rattle.sweeper.specs.Looked.{HasEntry}
use Rattle.sweeper.proofs.FieldWords.{lies_aside, lies_elsewhere, refers_not}
use Rattle.sweeper.proofs.HalfPairs.{both_directory, both_inbox, both_less, both_run, both_words, car_directory, car_less, cdr_asks, cdr_copy, cdr_keeps, plain_runs}
use Rattle.sweeper.proofs.sweeper.Sweeper.sweep_pair.Goals as goal

-- ---- the cdr asks for nothing

pub returns-in_default-clause-runs : goal.returns-in_default-clause-runs
returns-in_default-clause-runs c = λ u ready half.
    plain_runs c.args.self.now c.args.begun u ready half c.args.directory.now c.requires.same
    c.sweep_car.new.self (c.in_ok-sweep_car.ensures.done u half)
    (refers_not c.args.directory.now c.args.begun.pair.cdr (sym c.referred.ensures ∙ c.in_default.is))

pub returns-in_default-clause-less : goal.returns-in_default-clause-less
returns-in_default-clause-less c = λ u ready half.
    car_less c.args.self.now c.args.begun u ready half c.args.directory.now c.requires.same
    c.sweep_car.new.self (c.in_ok-sweep_car.ensures.done u half)

pub returns-in_default-find_near-clause-runs : goal.returns-in_default-find_near-clause-runs
returns-in_default-find_near-clause-runs c = λ u ready half.
    plain_runs c.args.self.now c.args.begun u ready half c.args.directory.now c.requires.same
    c.sweep_car.new.self (c.in_ok-sweep_car.ensures.done u half)
    (lies_elsewhere c.args.directory.now c.args.begun.pair.cdr c.in-Some.target
    (sym c.referred.ensures ∙ c.in-Some.is) (sym c.find_near.ensures.value ∙ c.in_default-find_near.is))

pub returns-in_default-find_near-clause-less : goal.returns-in_default-find_near-clause-less
returns-in_default-find_near-clause-less c = λ u ready half.
    car_less c.args.self.now c.args.begun u ready half c.args.directory.now c.requires.same
    c.sweep_car.new.self (c.in_ok-sweep_car.ensures.done u half)

-- ---- the cdr asks for a collected object

pub sweep_cdr-requires-clause-target : goal.sweep_cdr-requires-clause-target
sweep_cdr-requires-clause-target c =
    let h = c.requires.begun in
    cdr_asks c.args.self.now c.args.begun h.before h.ready h.halfway c.args.directory.now c.requires.same
    c.sweep_car.new.self (c.in_ok-sweep_car.ensures.done h.before h.halfway)
    ∙ lies_aside c.args.directory.now c.args.begun.pair.cdr c.in-Some.target c.in-Some-find_near.found
    (sym c.referred.ensures ∙ c.in-Some.is) (sym c.find_near.ensures.value ∙ c.in-Some-find_near.is)

pub sweep_cdr-requires-clause-field : goal.sweep_cdr-requires-clause-field
sweep_cdr-requires-clause-field c =
    let h = c.requires.begun in
    cdr_copy c.args.self.now c.args.begun h.before h.ready h.halfway c.args.directory.now c.requires.same
    c.sweep_car.new.self (c.in_ok-sweep_car.ensures.done h.before h.halfway)

pub sweep_cdr-requires-clause-own : goal.sweep_cdr-requires-clause-own
sweep_cdr-requires-clause-own c =
    let h = c.requires.begun in
    cdr_keeps c.args.self.now c.args.begun h.before h.ready h.halfway c.args.directory.now c.requires.same
    c.sweep_car.new.self (c.in_ok-sweep_car.ensures.done h.before h.halfway)
    c.in-Some.target
    (lies_aside c.args.directory.now c.args.begun.pair.cdr c.in-Some.target c.in-Some-find_near.found
    (sym c.referred.ensures ∙ c.in-Some.is) (sym c.find_near.ensures.value ∙ c.in-Some-find_near.is))

pub returns-clause-runs : goal.returns-clause-runs
returns-clause-runs c = λ u ready half.
    both_run c.args.self.now c.args.begun u ready half c.args.directory.now c.requires.same
    c.sweep_car.new.self (c.in_ok-sweep_car.ensures.done u half) c.sweep_cdr.new.self
    c.in_ok-next.next c.in_ok-next.ensures.done

pub returns-clause-less : goal.returns-clause-less
returns-clause-less c = λ u ready half.
    both_less c.args.self.now c.args.begun u ready half c.args.directory.now c.requires.same
    c.sweep_car.new.self (c.in_ok-sweep_car.ensures.done u half) c.sweep_cdr.new.self
    c.in_ok-next.next c.in_ok-next.ensures.done

pub returns-clause-words : goal.returns-clause-words
returns-clause-words c =
    let h = c.requires.begun in
    both_words c.args.self.now c.args.begun h.before h.ready h.halfway c.args.directory.now c.requires.same
    c.sweep_car.new.self (c.in_ok-sweep_car.ensures.done h.before h.halfway)
    c.sweep_cdr.new.self c.in_ok-next.next c.in_ok-next.ensures.done c.in_ok-next.ensures.next

pub sweep_cdr-requires-clause-found : goal.sweep_cdr-requires-clause-found
sweep_cdr-requires-clause-found c =
    let h = c.requires.begun in
    ap (λ z. found_at z c.in-Some.target)
    (car_directory c.args.self.now c.args.begun h.before h.ready h.halfway c.args.directory.now c.requires.same
    c.sweep_car.new.self (c.in_ok-sweep_car.ensures.done h.before h.halfway))
    ∙ sym c.find_near.ensures.value ∙ c.in-Some-find_near.is

pub sweep_cdr-requires-clause-refers : goal.sweep_cdr-requires-clause-refers
sweep_cdr-requires-clause-refers c =
    let h = c.requires.begun in
    c.in-Some-find_near.ensures.target
    ∙ ap (λ (z : DirectoryView). target_of z.targets c.in-Some-find_near.found.generation)
    (sym (car_directory c.args.self.now c.args.begun h.before h.ready h.halfway c.args.directory.now c.requires.same
    c.sweep_car.new.self (c.in_ok-sweep_car.ensures.done h.before h.halfway)))

pub returns-clause-directory : goal.returns-clause-directory
returns-clause-directory c =
    let h = c.requires.begun in
    both_directory c.args.self.now c.args.begun h.before h.ready h.halfway c.args.directory.now c.requires.same
    c.sweep_car.new.self (c.in_ok-sweep_car.ensures.done h.before h.halfway)
    c.sweep_cdr.new.self c.in_ok-next.next c.in_ok-next.ensures.done

pub returns-clause-inbox : goal.returns-clause-inbox
returns-clause-inbox c =
    let h = c.requires.begun in
    both_inbox c.args.self.now c.args.begun h.before h.ready h.halfway c.args.directory.now c.requires.same
    c.sweep_car.new.self (c.in_ok-sweep_car.ensures.done h.before h.halfway)
    c.sweep_cdr.new.self c.in_ok-next.next c.in_ok-next.ensures.done

-- the from-segment in which the cdr's object lies is that of the pair that is swept next
next_entry : (d : DirectoryView) (from : FromSegment) (x : ℕ) (o : Option NextPair) → IfSome o (λ (p : NextPair). p.object ≡ x)
    → HasEntry d x from → IfSome o (λ (p : NextPair). HasEntry d p.object from)
next_entry d from x None h e = tt
next_entry d from x (Some p) h e = subst (λ v. HasEntry d v from) (sym h) e

pub returns-clause-from : goal.returns-clause-from
returns-clause-from c =
    next_entry c.args.directory.now c.find_near.new.near.from c.in-Some.target c.in_ok-next.next c.in_ok-next.ensures.object
    c.in-Some-find_near.ensures.from
