use Rattle.std.proofs.Common.{arith}
use Rattle.territory.proofs.OldStarts.{old_ones}
use Rattle.territory.proofs.OldByWords.{old_by_words}
use Rattle.territory.proofs.Reading.{addresses}
use Rattle.territory.proofs.OldNexts.{told_some, told_none, first_listed}
use Rattle.territory.proofs.territory.Territory.first_old.Goals as goal

pub returns-in_err-n-clause-first : goal.returns-in_err-n-clause-first
returns-in_err-n-clause-first c = told_none _ _ _ _ _ _ _ c.self.view_is c.self.invariant.1 (c.first_old.ensures 0 c.first_dirty.ensures) c.in_err-n.was c.from_residual.ensures

pub returns-in_err-n-clause-all : goal.returns-in_err-n-clause-all
returns-in_err-n-clause-all c = old_ones _ _ _ _ _ c.self.view_is c.self.invariant.1 (omega arith)

pub returns-clause-first : goal.returns-clause-first
returns-clause-first c = told_some _ _ _ _ _ _ _ _ _ c.self.view_is c.self.invariant.1 (c.first_old.ensures 0 c.first_dirty.ensures) c.in_ok-n.was c.address.ensures

pub returns-clause-listed : goal.returns-clause-listed
returns-clause-listed c = first_listed _ _ _ (told_some _ _ _ _ _ _ _ _ _ c.self.view_is c.self.invariant.1 (c.first_old.ensures 0 c.first_dirty.ensures) c.in_ok-n.was c.address.ensures)

pub returns-clause-all : goal.returns-clause-all
returns-clause-all c = old_ones _ _ _ _ _ c.self.view_is c.self.invariant.1 (omega arith)

pub returns-in_err-n-clause-words : goal.returns-in_err-n-clause-words
returns-in_err-n-clause-words c = old_by_words _ _ _ _ _ c.self.view_is c.self.invariant.1

pub returns-in_err-n-clause-addresses : goal.returns-in_err-n-clause-addresses
returns-in_err-n-clause-addresses c = addresses _ _ _ _ c.self.invariant.0 c.self.invariant.1 c.self.view_is

pub returns-clause-words : goal.returns-clause-words
returns-clause-words c = old_by_words _ _ _ _ _ c.self.view_is c.self.invariant.1

pub returns-clause-addresses : goal.returns-clause-addresses
returns-clause-addresses c = addresses _ _ _ _ c.self.invariant.0 c.self.invariant.1 c.self.view_is
