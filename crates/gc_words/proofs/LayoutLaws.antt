use Rattle.std.proofs.Common.{◌≡◌, ℕ, ◌+◌, ◌*◌, ◌/◌, ◌%◌, sym, ◌∙◌, ap, arith}
use Rattle.std.proofs.lemmas.Nat.{div-mul-add, mod-mul-add, div-add-mod'}
use Rattle.gc_words.specs.declared.address.TheConstants.{SEGMENTS, OFFSETS}
use Rattle.gc_words.specs.Layout.{HasParts, IsMadeOf, IsAddress, address_of, thread_of, segment_of, offset_of}

-- an address number gives back the parts that it was made of
pub thread_of-address_of : (t s o : ℕ) → HasParts t s o → thread_of (address_of t s o) ≡ t
unfolding thread_of address_of
thread_of-address_of t s o p = ap (λ n. n / SEGMENTS) (div-mul-add (t * SEGMENTS + s) OFFSETS o p.offset_in) ∙ div-mul-add t SEGMENTS s p.segment_in

pub segment_of-address_of : (t s o : ℕ) → HasParts t s o → segment_of (address_of t s o) ≡ s
unfolding segment_of address_of
segment_of-address_of t s o p = ap (λ n. n % SEGMENTS) (div-mul-add (t * SEGMENTS + s) OFFSETS o p.offset_in) ∙ mod-mul-add t SEGMENTS s p.segment_in

pub offset_of-address_of : (t s o : ℕ) → HasParts t s o → offset_of (address_of t s o) ≡ o
unfolding offset_of address_of
offset_of-address_of t s o p = mod-mul-add (t * SEGMENTS + s) OFFSETS o p.offset_in

pub address_of_parts : (t s o : ℕ) → HasParts t s o → IsMadeOf (address_of t s o) t s o
address_of_parts t s o p = record {
  its_thread = thread_of-address_of t s o p;
  its_segment = segment_of-address_of t s o p;
  its_offset = offset_of-address_of t s o p;
}

-- parts in range make an address
pub address_of_valid : (t s o : ℕ) → HasParts t s o → IsAddress (address_of t s o)
unfolding address_of
address_of_valid t s o p = (omega (arith, p.thread_in, p.segment_in, p.offset_in), omega (arith, p.even))

-- an address is made of its parts, and they are in range
pub address_of-its_parts : (a : ℕ) → address_of (thread_of a) (segment_of a) (offset_of a) ≡ a
unfolding thread_of segment_of offset_of address_of
address_of-its_parts a = ap (λ n. n * OFFSETS + a % OFFSETS) (div-add-mod' (a / OFFSETS) SEGMENTS) ∙ div-add-mod' a OFFSETS

pub its_parts : (a : ℕ) → IsAddress a → HasParts (thread_of a) (segment_of a) (offset_of a)
unfolding thread_of segment_of offset_of
its_parts a v = record {
  thread_in = omega (arith, v.0);
  segment_in = omega arith;
  offset_in = omega arith;
  even = omega (arith, v.1);
}

-- places that differ in a part have different numbers
pub address_of_injective : (t s o t' s' o' : ℕ) → HasParts t s o → HasParts t' s' o' → address_of t s o ≡ address_of t' s' o' → (t ≡ t') × (s ≡ s') × (o ≡ o')
address_of_injective t s o t' s' o' p p' e = (
  sym (thread_of-address_of t s o p) ∙ (ap thread_of e ∙ thread_of-address_of t' s' o' p'),
  sym (segment_of-address_of t s o p) ∙ (ap segment_of e ∙ segment_of-address_of t' s' o' p'),
  sym (offset_of-address_of t s o p) ∙ (ap offset_of e ∙ offset_of-address_of t' s' o' p'),
)
