use Rattle.sweep_model.proofs.laws.steps_keep_memory_tied.Goals as goal
use Rattle.sweep_model.proofs.Memory.{mail_keeps_tied, sweep_keeps_tied}
use Rattle.sweep_model.proofs.MemoryCopies.{copy_keeps_tied}
use Rattle.sweep_model.proofs.MemoryPuts.{put_writes, set_writes}

pub returns-clause-copy : goal.returns-clause-copy
returns-clause-copy c = copy_keeps_tied

pub returns-clause-put : goal.returns-clause-put
returns-clause-put c = λ world h h' x p i t word q. put_writes world h h' x p i t word q

pub returns-clause-set : goal.returns-clause-set
returns-clause-set c = set_writes

pub returns-clause-mail : goal.returns-clause-mail
returns-clause-mail c = mail_keeps_tied

pub returns-clause-sweep : goal.returns-clause-sweep
returns-clause-sweep c = sweep_keeps_tied
