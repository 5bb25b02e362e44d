-- What is said of a line that is not of the format, case by case. Assumes nothing.
use Rattle.std.specs.Prelude.{ℕ, List, codes}
use Rattle.journal.specs.declared.fault.Fault.{Fault}
use Rattle.journal.specs.declared.fault.Fault.TheVariants.{Call, Hexadecimal, Visitor, Dialogue, Nothing, Memory}

abbrev pub fault_text : Fault → List ℕ
fault_text Call = codes "expected visitor, event, direct, send, withdraw or show"
fault_text Hexadecimal = codes "expected pairs of hexadecimal digits"
fault_text Visitor = codes "expected visitor one|several LAST rows|tree ROOM, with a room of at most 65536"
fault_text Dialogue = codes "expected the number of a dialogue"
fault_text Nothing = codes "expected the end of the line"
fault_text Memory = codes "no memory for the line"
