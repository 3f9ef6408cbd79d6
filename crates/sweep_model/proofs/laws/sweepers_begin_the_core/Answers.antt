use Rattle.sweep_model.proofs.laws.sweepers_begin_the_core.Goals as goal
use Rattle.sweep_model.proofs.Starting.{start_stands}
use Rattle.sweep_model.proofs.Worlds.{world_has_setting}

pub returns-clause-setting : goal.returns-clause-setting
returns-clause-setting c = world_has_setting

pub returns-clause-start : goal.returns-clause-start
returns-clause-start c = start_stands
