use Rattle.sweep_rounds.proofs.Beginning.{begin_whole}
use Rattle.sweep_rounds.proofs.laws.new_sweepers_stand_together.Goals as goal

pub returns : goal.returns
returns c = begin_whole
