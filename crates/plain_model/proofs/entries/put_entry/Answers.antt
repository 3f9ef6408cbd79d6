use Rattle.plain_model.proofs.Placing.{place_in_list, put_again, put_new}
use Rattle.plain_model.proofs.entries.put_entry.Goals as goal
use Rattle.std.proofs.Common.{sym}

pub insert-requires : goal.insert-requires
insert-requires g c =
    rw (c.place_of-place.ensures, ← c.deref-in-None.ensures.len) (place_in_list c.args.birth c.deref-in-None.result.now)

pub returns-in-Some-clause-put : goal.returns-in-Some-clause-put
returns-in-Some-clause-put g c =
    put_again c.args.entries.now.items c.in-Some.index c.args.birth c.args.value c.index_mut.result.now c.requires
    (rw c.deref.ensures.value at c.in-Some.ensures) c.index_mut.ensures.value

pub returns-in_ok-insert-in-None-clause-put : goal.returns-in_ok-insert-in-None-clause-put
returns-in_ok-insert-in-None-clause-put g c =
    rw (c.in_ok-insert-in-None.ensures.items, c.place_of-place.ensures, c.deref-in-None.ensures.value)
    (sym (put_new c.args.entries.now.items c.args.birth c.args.value (rw c.deref.ensures.value at c.in-None.ensures)))
