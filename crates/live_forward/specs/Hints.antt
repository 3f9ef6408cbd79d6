-- What contracts see of the two ends of a ring.
use Rattle.std.specs.Prelude.{ℕ, List}
use Rattle.rtrb.specs.Ring as ring
use Rattle.live_forward.specs.declared.hints.HintSender.{HintSender}
use Rattle.live_forward.specs.declared.hints.HintReceiver.{HintReceiver}

-- the targets that the ring took, oldest first
abbrev pub taken : HintSender → List ℕ
taken s = ring.sent s.producer

-- for how many targets the ring has room
abbrev pub ring_capacity : HintSender → ℕ
ring_capacity s = ring.producer_capacity s.producer

-- the targets that the ring gave, oldest first
abbrev pub given : HintReceiver → List ℕ
given r = ring.received r.consumer

-- the targets that the next hints give
abbrev pub waiting : HintReceiver → List ℕ
waiting r = ring.known_items r.consumer

-- both are ends of one ring
abbrev pub IsRing : HintSender → HintReceiver → Type 0
IsRing s r = ring.IsPair s.producer r.consumer

-- both are the end of one ring, before and after a call
abbrev pub SameSender : HintSender → HintSender → Type 0
SameSender s t = ring.SameProducer s.producer t.producer

abbrev pub SameReceiver : HintReceiver → HintReceiver → Type 0
SameReceiver r q = ring.SameConsumer r.consumer q.consumer
