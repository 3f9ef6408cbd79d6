-- Lines whose own form is refused.
use Rattle.std.specs.Prelude.{List, [], ◌∷◌, codes}
use Rattle.trace_types.specs.declared.fault.Fault.TheVariants.{BadGeneration, BadNumber, BadRegister, BadThread, NotText, OperandCount, UnknownCommand}
use Rattle.trace_types.specs.Rows.{Row, usual, refused}

abbrev pub form_rows : List Row
form_rows =
    -- refused as it stands: cons r0 01 r4096
    refused usual (codes "cons r0 01 r4096\n") [] 1 BadNumber
    -- refused as it stands: cons r4096 01 x x
    ∷ refused usual (codes "cons r4096 01 x x\n") [] 1 OperandCount
    -- refused as it stands: cons  r0 1
    ∷ refused usual (codes "cons  r0 1\n") [] 1 BadRegister
    -- refused as it stands: census
    ∷ refused usual (codes "census \n") [] 1 OperandCount
    -- refused as it stands:  ;
    ∷ refused usual (codes " ;\n") [] 1 UnknownCommand
    -- refused as it stands: print -0
    ∷ refused usual (codes "print -0\n") [] 1 BadNumber
    -- refused as it stands: print nil (carriage return)
    ∷ refused usual (codes "print nil\r\n") [] 1 NotText
    -- refused as it stands: print bwp
    ∷ refused usual (codes "print bwp\n") [] 1 BadNumber
    -- refused as it stands: collect 00 0 0
    ∷ refused usual (codes "collect 00 0 0\n") [] 1 BadGeneration
    -- refused as it stands: vec r0 4294967296 nil
    ∷ refused usual (codes "vec r0 4294967296 nil\n") [] 1 BadNumber
    -- refused as it stands: bytes r0 1 256
    ∷ refused usual (codes "bytes r0 1 256\n") [] 1 BadNumber
    -- refused as it stands: note 256 r0
    ∷ refused usual (codes "note 256 r0\n") [] 1 BadNumber
    -- refused as it stands: thread 01
    ∷ refused usual (codes "thread 01\n") [] 1 BadThread
    -- refused as it stands: tput r0 r1 x r0 1
    ∷ refused usual (codes "tput r0 r1 x r0 1\n") [] 1 BadNumber
    -- refused as it stands: tput r0 r0 x 1 1
    ∷ refused usual (codes "tput r0 r0 x 1 1\n") [] 1 BadRegister
    -- refused as it stands: collect s 3 3
    ∷ refused usual (codes "collect s 3 3\n") [] 1 BadGeneration
    ∷ []
