use Rattle.std.proofs.Common.{subst}
use Rattle.directory.specs.Reaches.{Reaches}
use Rattle.directory.proofs.directory.Directory.reach.Goals as goal

pub returns : goal.returns
returns c = subst (Reaches c.self.inside.reach) c.self.view_is c.self.invariant.2
