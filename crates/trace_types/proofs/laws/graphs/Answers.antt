use Rattle.trace_types.proofs.Graphs.{object_at-put}
use Rattle.trace_types.proofs.Finding.{left_found, new_counts, census-with_field}
use Rattle.trace_types.proofs.laws.graphs.Goals as goal

pub returns-clause-put : goal.returns-clause-put
returns-clause-put c s birth q o = object_at-put s.graph birth o q

pub returns-clause-collected : goal.returns-clause-collected
returns-clause-collected c s a q = left_found s a q

pub returns-clause-made : goal.returns-clause-made
returns-clause-made c s line d kind fields before = new_counts s line d kind fields before

pub returns-clause-set : goal.returns-clause-set
returns-clause-set c s x index o v well found = census-with_field s x index o v well found
