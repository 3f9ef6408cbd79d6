-- The starts of a heap, and the graph that they stand for.
use Rattle.std.specs.Prelude.{◌≡◌, ℕ, false, List, Some}
use Rattle.trace_types.specs.Values.{Object, Graph, object_at}
use Rattle.segment.specs.Segments.{Start}
use Rattle.heap_store.specs.Starts.{Starts, is_cell, object_of}
use Rattle.heap_store.specs.Queues.{Queue, HasQueue}

-- the graph has what starts at the place, with its queue
pub record IsInGraph (f : Starts) (graph : Graph) (a : ℕ) (x : Start) : Type 0 where
  pub cells : List ℕ
  pub queue : Queue
  pub has_queue : HasQueue f a x cells queue
  pub found : object_at graph x.birth ≡ Some (object_of f a x queue)

-- the place of an object of the graph
pub record HasPlace (f : Starts) (birth : ℕ) : Type 0 where
  pub place : ℕ
  pub start : Start
  pub here : f place ≡ Some start
  pub same_birth : start.birth ≡ birth
  pub no_cell : is_cell start.kind ≡ false

-- the starts but for queue cells are the objects of the graph, by birth
pub record GraphStands (f : Starts) (graph : Graph) : Type 0 where
  pub objects : (a : ℕ) (x : Start) → f a ≡ Some x → is_cell x.kind ≡ false → IsInGraph f graph a x
  pub places : (birth : ℕ) (o : Object) → object_at graph birth ≡ Some o → HasPlace f birth
