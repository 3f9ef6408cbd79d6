use Rattle.plain_model.proofs.Printing.{found_bytes}
use Rattle.plain_model.proofs.print.push_object.Goals as goal

pub push_line-requires : goal.push_line-requires
push_line-requires c = found_bytes c.args.state.now.graph c.args.birth c.in-Some.object.now c.requires c.in-Some.ensures
