use Rattle.std.proofs.Common.{refl}
use Rattle.plain_model.proofs.States.{opened}
use Rattle.plain_model.proofs.state.State.opening.Goals as goal

pub returns : goal.returns
returns c =
    opened (record {
      graph = c.new.result;
      registers = c.in_ok-registers.registers;
      locks = c.new-2.result;
      notes = c.in_ok-notes.notes;
      registrations = c.new-3.result;
      thread = 0;
      collects = 0;
      oldest = c.args.oldest;
      version = 1;
    })
    4096 256 c.args.oldest c.new.ensures.items c.in_ok-registers.ensures c.new-2.ensures.items c.in_ok-notes.ensures
    c.new-3.ensures.items refl refl refl refl
