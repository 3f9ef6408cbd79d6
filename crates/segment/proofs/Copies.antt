-- A run of words at the top leaves a sound segment, in which a copy starts.
use Rattle.std.proofs.Common.{◌≡◌, ◌≢◌, ℕ, ◌+◌, ◌-◌, ◌*◌, ◌/◌, ◌%◌, ◌<◌, ◌≤◌, false, List, [], ◌∷◌, ◌++◌, length, get_or, set, take, drop, Some, refl, sym, ◌∙◌, ap, subst, arith, inl, inr, get_or-set_same, get_or-set_other, length-append, length-drop}
use Rattle.std.proofs.lemmas.List.{ext_get_or, get_or_read, length-set, length-take-le, get_or-take, get_or-drop, get_or_append_left, get_or-append_right, drop-take, drop-drop, take-take, get_or_past}
use Rattle.std.proofs.lemmas.Bool.{cases_eq, cases_lt}
use Rattle.segment.specs.Layout.{skip_of, kind_of, length_of, count_of, size_of}
use Rattle.segment.specs.Segments.{Segment, first_at, size_at, words_at, object_at, is_free, spot, IsStart, IsLaid, IsSound, HasRoom}
use Rattle.segment.specs.Copies.{run_at, with_words, with_run, with_copy}
use Rattle.segment.proofs.Sizes.{size_even, size_covers, size_pos}
use Rattle.segment.proofs.Changes.{born_below}
use Rattle.segment.proofs.Spots.{spot_same, spot_start, object_same}

-- ---- words with a run in them

front_length : (ws run : List ℕ) (top : ℕ) → top + length run ≤ length ws → length (take top ws) ≡ top
front_length ws run top b = length-take-le top ws (omega arith)

pub length-pasted : (ws run : List ℕ) (top : ℕ) → top + length run ≤ length ws → length (with_words ws top run) ≡ length ws
length-pasted ws run top b =
    omega (arith, front_length ws run top b, length-append (take top ws) (run ++ drop (top + length run) ws), length-append run (drop (top + length run) ws), length-drop (top + length run) ws)

pub pasted_below : (ws run : List ℕ) (top i : ℕ) → top + length run ≤ length ws → i < top → get_or (with_words ws top run) i 0 ≡ get_or ws i 0
pasted_below ws run top i b lt =
    let l : length (take top ws) ≡ top = front_length ws run top b in
    get_or_append_left (take top ws) (run ++ drop (top + length run) ws) 0 i (omega arith) ∙ get_or-take top ws i 0 lt

pub pasted_in : (ws run : List ℕ) (top i : ℕ) → top + length run ≤ length ws → i < length run → get_or (with_words ws top run) (top + i) 0 ≡ get_or run i 0
pasted_in ws run top i b lt =
    let j : top + i - top ≡ i = omega arith in
    get_or-append_right (take top ws) (run ++ drop (top + length run) ws) top (top + i) 0 (front_length ws run top b) (omega arith)
    ∙ (ap (λ v. get_or (run ++ drop (top + length run) ws) v 0) j ∙ get_or_append_left run (drop (top + length run) ws) 0 i lt)

pub pasted_above : (ws run : List ℕ) (top i : ℕ) → top + length run ≤ length ws → top + length run ≤ i → get_or (with_words ws top run) i 0 ≡ get_or ws i 0
pasted_above ws run top i b ge =
    let j : top + length run + (i - top - length run) ≡ i = omega arith in
    get_or-append_right (take top ws) (run ++ drop (top + length run) ws) top i 0 (front_length ws run top b) (omega arith)
    ∙ (get_or-append_right run (drop (top + length run) ws) (length run) (i - top) 0 refl (omega arith)
    ∙ (get_or-drop (top + length run) ws (i - top - length run) 0 ∙ ap (λ v. get_or ws v 0) j))

-- a window below the run
window_below : (ws run : List ℕ) (top m n : ℕ) → top + length run ≤ length ws → m + n ≤ top → take n (drop m (with_words ws top run)) ≡ take n (drop m ws)
window_below ws run top m n b le =
    let l : length (with_words ws top run) ≡ length ws = length-pasted ws run top b in
    let la : length (take n (drop m (with_words ws top run))) ≡ n = length-take-le n (drop m (with_words ws top run)) (omega (arith, length-drop m (with_words ws top run))) in
    let lb : length (take n (drop m ws)) ≡ n = length-take-le n (drop m ws) (omega (arith, length-drop m ws)) in
    ext_get_or 0 (take n (drop m (with_words ws top run))) (take n (drop m ws)) (la ∙ sym lb) (λ i k.
    let b' : i < n = omega arith in
    get_or-take n (drop m (with_words ws top run)) i 0 b' ∙ (get_or-drop m (with_words ws top run) i 0
    ∙ (pasted_below ws run top (m + i) b (omega arith) ∙ (sym (get_or-drop m ws i 0) ∙ sym (get_or-take n (drop m ws) i 0 b')))))

-- a window within it
window_in : (ws run : List ℕ) (top m n : ℕ) → top + length run ≤ length ws → m + n ≤ length run → take n (drop (top + m) (with_words ws top run)) ≡ take n (drop m run)
window_in ws run top m n b le =
    let l : length (with_words ws top run) ≡ length ws = length-pasted ws run top b in
    let la : length (take n (drop (top + m) (with_words ws top run))) ≡ n = length-take-le n (drop (top + m) (with_words ws top run)) (omega (arith, length-drop (top + m) (with_words ws top run))) in
    let lb : length (take n (drop m run)) ≡ n = length-take-le n (drop m run) (omega (arith, length-drop m run)) in
    ext_get_or 0 (take n (drop (top + m) (with_words ws top run))) (take n (drop m run)) (la ∙ sym lb) (λ i k.
    let b' : i < n = omega arith in
    let at : top + m + i ≡ top + (m + i) = omega arith in
    get_or-take n (drop (top + m) (with_words ws top run)) i 0 b' ∙ (get_or-drop (top + m) (with_words ws top run) i 0
    ∙ (ap (λ v. get_or (with_words ws top run) v 0) at ∙ (pasted_in ws run top (m + i) b (omega arith) ∙ (sym (get_or-drop m run i 0) ∙ sym (get_or-take n (drop m run) i 0 b'))))))

-- ---- an object of these words at the top

-- the run is an object of its space
pub IsRun : Segment → List ℕ → Type 0
IsRun p run = length run ≡ size_of p.space (get_or run 0 0)

pub run_first : (p : Segment) (run : List ℕ) (birth : ℕ) → IsLaid p → HasRoom p (length run) → 0 < length run → first_at (with_run p run birth) (p.top / 2) ≡ get_or run 0 0
run_first p run birth h room some =
    let t : 2 * (p.top / 2) ≡ p.top + 0 = omega (arith, h.even) in
    ap (λ v. get_or (with_words p.words p.top run) v 0) t ∙ pasted_in p.words run p.top 0 room.0 some

pub old_first : (p : Segment) (run : List ℕ) (birth j : ℕ) → IsLaid p → HasRoom p (length run) → get_or p.births j 0 ≢ 0 → first_at (with_run p run birth) j ≡ first_at p j
old_first p run birth j h room bj = pasted_below p.words run p.top (2 * j) room.0 (born_below p j h bj)

pub IsLaid-run : (p : Segment) (run : List ℕ) (birth : ℕ) → IsLaid p → IsRun p run → HasRoom p (length run) → IsLaid (with_run p run birth)
unfolding IsRun
IsLaid-run p run birth h is room =
    let some : 2 ≤ length run = omega (arith, size_pos p.space (get_or run 0 0)) in
    let l : length (with_words p.words p.top run) ≡ length p.words = length-pasted p.words run p.top room.0 in
    let ev : length run % 2 ≡ 0 = ap (λ v. v % 2) is ∙ size_even p.space (get_or run 0 0) in
    let t : 2 * (p.top / 2) ≡ p.top = omega (arith, h.even) in
    let q : Segment = with_run p run birth in
    let born : (j : ℕ) → j ≢ p.top / 2 → get_or (set p.births (p.top / 2) birth) j 0 ≡ get_or p.births j 0 = λ j ne. get_or-set_other p.births (p.top / 2) j birth 0 ne in
    let old : (j : ℕ) → j ≢ p.top / 2 → get_or (set p.births (p.top / 2) birth) j 0 ≢ 0 → get_or p.births j 0 ≢ 0 = λ j ne bj z. bj (born j ne ∙ z) in
    let old_size : (j : ℕ) → get_or p.births j 0 ≢ 0 → size_at q j ≡ size_at p j = λ j bj. ap (size_of p.space) (old_first p run birth j h room bj) in
    let new_size : size_at q (p.top / 2) ≡ length run = ap (size_of p.space) (run_first p run birth h room (omega arith)) ∙ sym is in
    record {
      top_in = omega (arith, l, room.0);
      even = omega (arith, h.even, ev);
      zero_above = λ i b. pasted_above p.words run p.top i room.0 b ∙ h.zero_above i (omega arith);
      loose = λ k b. born k (λ e. absurd (omega arith)) ∙ h.loose k (omega arith);
      fit = λ k bk. elim (cases_eq k (p.top / 2)) [
        | inl e ↦ subst (λ v. 2 * v + size_at q v ≤ p.top + length run) (sym e) (omega (arith, new_size, t))
        | inr ne ↦ let bk' : get_or p.births k 0 ≢ 0 = old k ne bk in omega (arith, old_size k bk', h.fit k bk')
      ];
      apart = λ j k lt bj bk. elim (cases_eq j (p.top / 2)) [
        | inl e ↦ absurd (let ne : k ≢ p.top / 2 = omega arith in omega (arith, born_below p k h (old k ne bk)))
        | inr ne ↦
            let bj' : get_or p.births j 0 ≢ 0 = old j ne bj in
            elim (cases_eq k (p.top / 2)) [
              | inl e ↦ omega (arith, old_size j bj', h.fit j bj', t)
              | inr ne' ↦ omega (arith, old_size j bj', h.apart j k lt bj' (old k ne' bk))
            ]
      ];
    }

pub IsSound-run : (p : Segment) (run : List ℕ) (birth : ℕ) → IsSound p → IsRun p run → HasRoom p (length run) → IsSound (with_run p run birth)
IsSound-run p run birth h is room =
    let l : length (with_words p.words p.top run) ≡ length p.words = length-pasted p.words run p.top room.0 in
    let b : length (set p.births (p.top / 2) birth) ≡ length p.births = length-set p.births (p.top / 2) birth in
    record {
      small = omega (arith, l, h.small);
      births = omega (arith, l, b, h.births);
      single = λ several. l ∙ h.single (omega (arith, b));
      marks = h.marks ∙ sym b;
      cards = λ some. rw l (h.cards (omega (arith, b)));
      clean = h.clean;
      dirty = h.dirty;
      free = h.free;
      unheld = h.unheld;
      laid = IsLaid-run p run birth h.laid is room;
    }

-- nothing else starts or changes
pub spot_run_other : (p : Segment) (run : List ℕ) (birth j : ℕ) → IsLaid p → HasRoom p (length run) → j ≢ p.top / 2 → spot (with_run p run birth) j ≡ spot p j
spot_run_other p run birth j h room ne =
    let q : Segment = with_run p run birth in
    spot_same p q j refl (get_or-set_other p.births (p.top / 2) j birth 0 ne) (λ bj.
    let f : first_at q j ≡ first_at p j = old_first p run birth j h room bj in
    let win : take (count_of p.space (first_at p j)) (drop (2 * j + skip_of p.space) (with_words p.words p.top run)) ≡ words_at p j =
    window_below p.words run p.top (2 * j + skip_of p.space) (count_of p.space (first_at p j)) room.0 (omega (arith, h.fit j bj, size_covers p.space (first_at p j))) in
    let words : words_at q j ≡ words_at p j = ap (λ v. take (count_of p.space v) (drop (2 * j + skip_of p.space) (with_words p.words p.top run))) f ∙ win in
    object_same p q j (record { kind = ap (kind_of p.space) f; length = ap (length_of p.space) f; count = ap (count_of p.space) f }) refl (get_or-set_other p.births (p.top / 2) j birth 0 ne) words)

-- ---- a copy of start k of segment q

pub length-run : (q : Segment) (k : ℕ) → IsLaid q → get_or q.births k 0 ≢ 0 → length (run_at q k) ≡ size_at q k
length-run q k h bk = length-take-le (size_at q k) (drop (2 * k) q.words) (omega (arith, h.fit k bk, h.top_in, length-drop (2 * k) q.words))

run_word : (q : Segment) (k i : ℕ) → i < size_at q k → get_or (run_at q k) i 0 ≡ get_or q.words (2 * k + i) 0
run_word q k i lt = get_or-take (size_at q k) (drop (2 * k) q.words) i 0 lt ∙ get_or-drop (2 * k) q.words i 0

pub first_of_run : (q : Segment) (k : ℕ) → get_or (run_at q k) 0 0 ≡ first_at q k
first_of_run q k =
    let z : 2 * k + 0 ≡ 2 * k = omega arith in
    run_word q k 0 (omega (arith, size_pos q.space (first_at q k))) ∙ ap (λ v. get_or q.words v 0) z

pub is_run : (p q : Segment) (k : ℕ) → IsLaid q → get_or q.births k 0 ≢ 0 → q.space ≡ p.space → IsRun p (run_at q k)
unfolding IsRun
is_run p q k h bk s = length-run q k h bk ∙ (ap (λ v. size_of v (first_at q k)) s ∙ ap (size_of p.space) (sym (first_of_run q k)))

-- the words of the object within the run
words_of_run : (q : Segment) (k : ℕ) → IsLaid q → get_or q.births k 0 ≢ 0 → take (count_of q.space (first_at q k)) (drop (skip_of q.space) (run_at q k)) ≡ words_at q k
words_of_run q k h bk =
    let s : ℕ = skip_of q.space in
    let n : ℕ = count_of q.space (first_at q k) in
    let m : ℕ = size_at q k in
    let c : s + n ≤ m = size_covers q.space (first_at q k) in
    let e : m ≡ s + (m - s) = omega arith in
    ap (λ v. take n (drop s (take v (drop (2 * k) q.words)))) e
    ∙ (ap (take n) (drop-take s (m - s) (drop (2 * k) q.words))
    ∙ (take-take n (m - s) (drop s (drop (2 * k) q.words)) (omega arith) ∙ ap (take n) (drop-drop s (2 * k) q.words)))

pub spot_copy : (p q : Segment) (k : ℕ) → IsLaid p → IsLaid q → is_free p.role ≡ false → IsStart q k → q.space ≡ p.space → HasRoom p (size_at q k)
    → spot (with_copy p q k) (p.top / 2) ≡ Some (record (object_at q k) { generation = p.generation })
spot_copy p q k h hq used start s room =
    let birth : ℕ = get_or q.births k 0 in
    let run : List ℕ = run_at q k in
    let r : Segment = with_copy p q k in
    let long : length run ≡ size_at q k = length-run q k hq start.1 in
    let room' : HasRoom p (length run) = subst (HasRoom p) (sym long) room in
    let some : 2 ≤ size_at q k = size_pos q.space (first_at q k) in
    let t : 2 * (p.top / 2) ≡ p.top = omega (arith, h.even) in
    let b : get_or r.births (p.top / 2) 0 ≡ birth = get_or-set_same p.births (p.top / 2) birth 0 (omega (arith, room.1)) in
    let f : first_at r (p.top / 2) ≡ first_at q k = run_first p run birth h room' (omega arith) ∙ first_of_run q k in
    let c : skip_of q.space + count_of q.space (first_at q k) ≤ length run = omega (arith, size_covers q.space (first_at q k)) in
    let win : take (count_of q.space (first_at q k)) (drop (p.top + skip_of q.space) (with_words p.words p.top run)) ≡ words_at q k =
    window_in p.words run p.top (skip_of q.space) (count_of q.space (first_at q k)) room'.0 c ∙ words_of_run q k hq start.1 in
    let words : words_at r (p.top / 2) ≡ words_at q k =
    ap (λ v. take (count_of p.space v) (drop (2 * (p.top / 2) + skip_of p.space) (with_words p.words p.top run))) f
    ∙ (ap (λ v. take (count_of p.space (first_at q k)) (drop (v + skip_of p.space) (with_words p.words p.top run))) t
    ∙ (ap (λ v. take (count_of v (first_at q k)) (drop (p.top + skip_of v) (with_words p.words p.top run))) (sym s) ∙ win)) in
    let kind : kind_of p.space (first_at r (p.top / 2)) ≡ kind_of q.space (first_at q k) = ap (kind_of p.space) f ∙ ap (λ v. kind_of v (first_at q k)) (sym s) in
    let len : length_of p.space (first_at r (p.top / 2)) ≡ length_of q.space (first_at q k) = ap (length_of p.space) f ∙ ap (λ v. length_of v (first_at q k)) (sym s) in
    let object : object_at r (p.top / 2) ≡ record (object_at q k) { generation = p.generation } = cc in
    spot_start r (p.top / 2) (used, λ z. start.1 (sym b ∙ z)) ∙ ap Some object

-- ---- for the answers: `p` and `q` are the fields of two segments, `now` and `from` what contracts see of them
pub record IsSource (p now q from : Segment) (k size birth : ℕ) (words : List ℕ) : Type 0 where
  pub sound : IsSound p
  pub seen : p ≡ now
  pub source_sound : IsSound q
  pub source_seen : q ≡ from
  pub space : from.space ≡ now.space
  pub start : IsStart from k
  pub size_is : size ≡ size_at from k
  pub room : HasRoom now size
  pub its_words : words ≡ with_words p.words p.top (take size (drop (2 * k) q.words))
  pub its_birth : birth ≡ get_or q.births k birth

-- a start and its words are there
pub source_fits : (q from : Segment) (k size : ℕ) → IsSound q → q ≡ from → IsStart from k → size ≡ size_at from k → (2 * k + size ≤ length q.words) × (k < length q.births) × (2 ≤ size)
source_fits q from k size h e start z =
    let s : IsStart q k = subst (λ v. IsStart v k) (sym e) start in
    let z' : size ≡ size_at q k = z ∙ ap (λ v. size_at v k) (sym e) in
    let fit : 2 * k + size_at q k ≤ q.top = h.laid.fit k s.1 in
    elim (cases_lt k (length q.births)) [
      | inl b ↦ (omega (arith, h.laid.top_in), b, omega (arith, size_pos q.space (first_at q k)))
      | inr far ↦ absurd (s.1 (get_or_past q.births k 0 far))
    ]

pub run_seen : (q from : Segment) (k size : ℕ) → q ≡ from → size ≡ size_at from k → take size (drop (2 * k) q.words) ≡ run_at from k
run_seen q from k size e z = ap (λ v. take v (drop (2 * k) q.words)) z ∙ ap (λ (v : Segment). take (size_at from k) (drop (2 * k) v.words)) e

birth_seen : (p now q from : Segment) (k size birth : ℕ) (words : List ℕ) → IsSource p now q from k size birth words → birth ≡ get_or from.births k 0
birth_seen p now q from k size birth words s =
    get_or_read q.births k birth (source_fits q from k size s.source_sound s.source_seen s.start s.size_is).1 s.its_birth 0 ∙ ap (λ (v : Segment). get_or v.births k 0) s.source_seen

size_seen : (p now q from : Segment) (k size birth : ℕ) (words : List ℕ) → IsSource p now q from k size birth words → size ≡ length (run_at from k)
size_seen p now q from k size birth words s = s.size_is ∙ sym (length-run from k (subst IsSound s.source_seen s.source_sound).laid s.start.1)

pub copy_is : (p now q from : Segment) (k size birth : ℕ) (words : List ℕ) → IsSource p now q from k size birth words
    → ◌≡◌ {A = Segment} (record p { top = p.top + size; words = words; births = set p.births (p.top / 2) birth }) (with_copy now from k)
copy_is p now q from k size birth words s =
    ap (λ v. let r : Segment = record p { top = p.top + size; words = v; births = set p.births (p.top / 2) birth } in r) (s.its_words ∙ ap (with_words p.words p.top) (run_seen q from k size s.source_seen s.size_is))
    ∙ (ap (λ v. let r : Segment = record p { top = p.top + v; words = with_words p.words p.top (run_at from k); births = set p.births (p.top / 2) birth } in r) (size_seen p now q from k size birth words s)
    ∙ (ap (with_run p (run_at from k)) (birth_seen p now q from k size birth words s) ∙ ap (λ v. with_copy v from k) s.seen))

pub copy_sound : (p now q from : Segment) (k size birth : ℕ) (words : List ℕ) → IsSource p now q from k size birth words
    → IsSound (record p { top = p.top + size; words = words; births = set p.births (p.top / 2) birth })
copy_sound p now q from k size birth words s =
    let source : IsSound from = subst IsSound s.source_seen s.source_sound in
    let room : HasRoom now (length (run_at from k)) = subst (HasRoom now) (size_seen p now q from k size birth words s) s.room in
    subst IsSound (sym (copy_is p now q from k size birth words s)) (IsSound-run now (run_at from k) (get_or from.births k 0) (subst IsSound s.seen s.sound) (is_run now from k source.laid s.start.1 s.space) room)

-- ---- two words
pub two_set : (ws : List ℕ) (top a b : ℕ) → top + 2 ≤ length ws → set (set ws top a) (top + 1) b ≡ with_words ws top (a ∷ b ∷ [])
two_set ws top a b room =
    let l : length (set (set ws top a) (top + 1) b) ≡ length ws = length-set (set ws top a) (top + 1) b ∙ length-set ws top a in
    let l' : length (with_words ws top (a ∷ b ∷ [])) ≡ length ws = length-pasted ws (a ∷ b ∷ []) top room in
    let z : top + 0 ≡ top = omega arith in
    ext_get_or 0 (set (set ws top a) (top + 1) b) (with_words ws top (a ∷ b ∷ [])) (l ∙ sym l') (λ i k.
    elim (cases_eq i (top + 1)) [
      | inl e ↦ ap (λ v. get_or (set (set ws top a) (top + 1) b) v 0) e ∙ (get_or-set_same (set ws top a) (top + 1) b 0 (omega (arith, length-set ws top a)) ∙ (sym (pasted_in ws (a ∷ b ∷ []) top 1 room (omega arith)) ∙ ap (λ v. get_or (with_words ws top (a ∷ b ∷ [])) v 0) (sym e)))
      | inr ne ↦ get_or-set_other (set ws top a) (top + 1) i b 0 ne ∙ elim (cases_eq i top) [
        | inl e ↦ ap (λ v. get_or (set ws top a) v 0) e ∙ (get_or-set_same ws top a 0 (omega arith) ∙ (sym (pasted_in ws (a ∷ b ∷ []) top 0 room (omega arith)) ∙ ap (λ v. get_or (with_words ws top (a ∷ b ∷ [])) v 0) (z ∙ sym e)))
        | inr ne' ↦ get_or-set_other ws top i a 0 ne' ∙ elim (cases_lt i top) [
          | inl lt ↦ sym (pasted_below ws (a ∷ b ∷ []) top i room lt)
          | inr ge ↦ sym (pasted_above ws (a ∷ b ∷ []) top i room (omega arith))
        ]
      ]
    ])

pub two_is : (p now : Segment) (a b birth : ℕ) → p ≡ now → HasRoom now 2
    → ◌≡◌ {A = Segment} (record p { top = p.top + 2; words = set (set p.words p.top a) (p.top + 1) b; births = set p.births (p.top / 2) birth }) (with_run now (a ∷ b ∷ []) birth)
two_is p now a b birth e room =
    ap (λ v. let r : Segment = record p { top = p.top + 2; words = v; births = set p.births (p.top / 2) birth } in r) (two_set p.words p.top a b (subst (λ v. HasRoom v 2) (sym e) room).0)
    ∙ ap (λ v. with_run v (a ∷ b ∷ []) birth) e

pub two_sound : (p now : Segment) (a b birth : ℕ) → IsSound p → p ≡ now → HasRoom now 2 → size_of now.space a ≡ 2
    → IsSound (record p { top = p.top + 2; words = set (set p.words p.top a) (p.top + 1) b; births = set p.births (p.top / 2) birth })
unfolding IsRun
two_sound p now a b birth h e room z = subst IsSound (sym (two_is p now a b birth e room)) (IsSound-run now (a ∷ b ∷ []) birth (subst IsSound e h) (sym z) room)

-- the first two words of a start are there
pub two_fit : (q from : Segment) (k : ℕ) → IsSound q → q ≡ from → IsStart from k → 2 * k + 1 < length q.words
two_fit q from k h e start = let f : (2 * k + size_at from k ≤ length q.words) × (k < length q.births) × (2 ≤ size_at from k) = source_fits q from k (size_at from k) h e start refl in omega arith
