use Rattle.seg_chain.proofs.Calls.{last_none, last_some}
use Rattle.seg_chain.proofs.chains.Chains.last.Goals as goal

pub returns-then-node-self : goal.returns-then-node-self
returns-then-node-self c = last_none _ _ _ _ _ _ _ c.self.invariant c.self.view_is c.requires c.index-node.ensures c.if-node-self.true

pub returns-else-node-self : goal.returns-else-node-self
returns-else-node-self c = last_some _ _ _ _ _ _ _ c.self.invariant c.self.view_is c.requires c.index-node.ensures c.if-node-self.false
