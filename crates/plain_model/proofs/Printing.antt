-- What a print may take of the bytes of a graph.
use Rattle.std.proofs.Common.{◌≡◌, ℕ, zero, suc, ◌<◌, List, [], ◌∷◌, map, length, get_or, IsTrue, Some, arith}
use Rattle.std.specs.List.{list_all}
use Rattle.std.proofs.lemmas.Bool.{and_parts}
use Rattle.std.proofs.lemmas.List.Elements.{recursion_from_All}
use Rattle.trace_types.specs.Values.{is_byte, Object, Graph, object_at}
use Rattle.trace_types.proofs.Meeting.{each_found}
use Rattle.plain_model.specs.Plain.{meaning}
use Rattle.plain_model.specs.Bytes.{are_bytes, HasBytes}
use Rattle.plain_model.specs.declared.value.Value.{Value}

-- each of them is one
pub byte_here : (bytes : List Value) (i : ℕ) (d : Value) → IsTrue (list_all is_byte (map meaning bytes)) → i < length bytes
    → IsTrue (is_byte (meaning (get_or bytes i d)))
byte_here [] i d all less = absurd (omega arith)
byte_here (b ∷ bytes) zero d all less = (and_parts (is_byte (meaning b)) (list_all is_byte (map meaning bytes)) all).0
byte_here (b ∷ bytes) (suc i) d all less =
    byte_here bytes i d (and_parts (is_byte (meaning b)) (list_all is_byte (map meaning bytes)) all).1 (omega arith)

-- an object of the graph has them
pub found_bytes : (graph : Graph) (x : ℕ) (o : Object) → HasBytes graph → object_at graph x ≡ Some o → IsTrue (are_bytes o)
found_bytes graph x o all found =
    each_found (λ x o. IsTrue (are_bytes o)) graph (recursion_from_All (λ entry. IsTrue (are_bytes entry.1)) graph all) x o found
