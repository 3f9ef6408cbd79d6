use Rattle.plain_model.proofs.Placing.{entry_found, entry_missing, entry_missing_behind}
use Rattle.plain_model.proofs.entries.index_in_order.Goals as goal

pub returns-then-index-entries : goal.returns-then-index-entries
returns-then-index-entries g c =
    entry_missing_behind c.args.entries.now c.args.birth c.requires (rw (← c.place_of-index.ensures) c.if-index-entries.true)

pub returns-then-entries-index : goal.returns-then-entries-index
returns-then-entries-index g c =
    entry_missing c.args.entries.now c.args.birth c.index-entries-index.result c.requires
    (rw (← c.place_of-index.ensures) (λ less. c.if-entries-index.true))

pub returns : goal.returns
returns g c =
    entry_found c.args.entries.now c.place_of-index.result c.args.birth c.index-entries-index.result c.requires
    c.if-index-entries.false c.if-entries-index.false
