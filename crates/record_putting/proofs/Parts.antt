-- A number's bytes; and bytes put in parts are put as one: a frame in pieces that may overlap, an entry's trailer, the record's end.
-- Assumes nothing.
use mathlib.Core.Path.{◌≡◌, refl, sym, ap, ◌∙◌}
use mathlib.Core.Bool.{Bool, true, false, cond}
use mathlib.Core.List.{List, [], ◌∷◌, ◌++◌, append-nil}
use Prim.Native.Nat.{ℕ, ◌+◌, ◌-◌, ◌/◌, ◌≤◌, ◌<◌}
use native.Mathlib.Omega.{arith}
use lib.Dec.{leb}
use lib.ListN.{length, take, drop, set, length-take, length-drop, take-append-drop}
use lib.Seq.{take_all, take-add, take_at, drop_at, drop-drop, length-take-le}
use borrow.Author.Tests.{leb-true, leb-false}
use Rattle.std.specs.Int.{w16, w32, to_be_bytes}
use Rattle.record_forms.specs.declared.Form.{Form}
use Rattle.record_forms.specs.declared.Form.TheVariants as form
use Rattle.record_forms.specs.Forms.{bits_size, trailer_size, end_size}
use Rattle.record_bytes.specs.Layout.{big, trailer_bytes, end_bytes}
use Rattle.record_bytes.specs.Steps.{put}
use Rattle.record_bytes.proofs.Numbers.{length-big}
use Rattle.record_bytes.proofs.Putting.{length-put, put-put, set-put}

-- ---- numbers

pub two_bytes : (n : ℕ) → to_be_bytes w16 n ≡ big 2 n
unfolding big
two_bytes n = refl

pub four_bytes : (n : ℕ) → to_be_bytes w32 n ≡ big 4 n
unfolding big
four_bytes n =
    let a : n / 65536 ≡ n / 256 / 256 = omega arith in
    let b : n / 16777216 ≡ n / 256 / 256 / 256 = omega arith in
    rw (a, b) refl

-- bytes put at the start of an array, and as many taken from it
pub put-taken : (d s : List ℕ) (n : ℕ) → n ≡ length s → take n (put d 0 s) ≡ s
unfolding put
put-taken d s n e = take_at s (drop (0 + length s) d) n (sym e)

-- y put over x from the same place on
put-over : (d : List ℕ) (at : ℕ) (x y : List ℕ) → length x ≤ length y → at + length y ≤ length d → put (put d at x) at y ≡ put d at y
unfolding put
put-over d at x y h k =
    let l : length (take at d) ≡ at = length-take-le at d (omega arith) in
    let r : List ℕ = x ++ drop (at + length x) d in
    let t : take at (take at d ++ r) ≡ take at d = take_at (take at d) r at l in
    let e : drop at (take at d ++ r) ≡ r = drop_at (take at d) r at l in
    let g : ℕ = length y - length x in
    let ly : length y ≡ length x + g = omega arith in
    let lg : at + length x + g ≡ at + length y = omega arith in
    let a : drop (length y) r ≡ drop (at + length y) d =
    ap (λ (n : ℕ). drop n r) ly ∙ sym (drop-drop g (length x) r)
    ∙ ap (drop g) (drop_at x (drop (at + length x) d) (length x) refl) ∙ drop-drop g (at + length x) d
    ∙ ap (λ (n : ℕ). drop n d) lg in
    let b : drop (at + length y) (take at d ++ r) ≡ drop (at + length y) d =
    sym (drop-drop (length y) at (take at d ++ r)) ∙ ap (drop (length y)) e ∙ a in
    ap (λ (z : List ℕ). z ++ (y ++ drop (at + length y) (take at d ++ r))) t ∙ ap (λ (z : List ℕ). take at d ++ (y ++ z)) b

-- ---- a frame

pub part_length : (m i n : ℕ) (s : List ℕ) → m ≡ n → i + n ≤ length s → length (take m (drop i s)) ≡ n
part_length m i n s e h = length-take-le m (drop i s) (rw length-drop (omega arith)) ∙ e

module _ (d : List ℕ) (at : ℕ) (s : List ℕ) (h : at + length s ≤ length d) where
  -- the next n bytes behind the first i
  pub put_next : (after : List ℕ) (i n : ℕ) → i + n ≤ length s → after ≡ put d at (take i s)
      → put after (at + i) (take (i + n - i) (drop i s)) ≡ put d at (take (i + n) s)
  put_next after i n k e =
      let l : length (take i s) ≡ i = length-take-le i s (omega arith) in
      let m : i + n - i ≡ n = omega arith in
      ap (λ (x : List ℕ). put x (at + i) (take (i + n - i) (drop i s))) e
      ∙ ap (λ (j : ℕ). put (put d at (take i s)) (at + j) (take (i + n - i) (drop i s))) (sym l)
      ∙ put-put d at (take i s) (take (i + n - i) (drop i s)) (omega arith)
      ∙ ap (λ (j : ℕ). put d at (take i s ++ take j (drop i s))) m ∙ ap (put d at) (sym (take-add i n s))

  -- the middle bytes, behind the first i, where they are wanted
  abbrev middle : Bool → ℕ → ℕ
  middle true i = i + 16
  middle false i = i

  middle-put : (after : List ℕ) (i : ℕ) (b : Bool) → (b ≡ true → i + 16 ≤ length s) → after ≡ put d at (take i s)
      → cond b (put after (at + i) (take 16 (drop i s))) after ≡ put d at (take (middle b i) s)
  middle-put after i true h e =
      let m : 16 ≡ i + 16 - i = omega arith in
      ap (λ (n : ℕ). put after (at + i) (take n (drop i s))) m ∙ put_next after i 16 (h refl) e
  middle-put after i false h e = e

  -- the last bytes, from k on, behind the first i of which some are among them
  pub put_last : (after : List ℕ) (i k : ℕ) → k ≤ i → i ≤ length s → after ≡ put d at (take i s)
      → put after (at + k) (take (length s - k) (drop k s)) ≡ put d at s
  put_last after i k g j e =
      let a : List ℕ = take k s in
      let x : List ℕ = take (i - k) (drop k s) in
      let y : List ℕ = drop k s in
      let la : length a ≡ k = length-take-le k s (omega arith) in
      let ly : length y ≡ length s - k = length-drop k s in
      let lx : length x ≡ i - k = length-take-le (i - k) y (omega arith) in
      let n : i ≡ k + (i - k) = omega arith in
      let p : take i s ≡ a ++ x = ap (λ (j : ℕ). take j s) n ∙ take-add k (i - k) s in
      let q : put d at (take i s) ≡ put (put d at a) (at + length a) x =
      ap (put d at) p ∙ sym (put-put d at a x (omega arith)) in
      let ld : length (put d at a) ≡ length d = length-put d at a (omega arith) in
      ap (put after (at + k)) (take_all (length s - k) y (omega arith))
      ∙ ap (λ (z : List ℕ). put z (at + k) y) (e ∙ q) ∙ ap (λ (m : ℕ). put (put (put d at a) (at + length a) x) (at + m) y) (sym la)
      ∙ put-over (put d at a) (at + length a) x y (omega arith) (omega arith) ∙ put-put d at a y (omega arith)
      ∙ ap (put d at) (take-append-drop k s)

  pub middle-length : (one two : List ℕ) (i last : ℕ) → last + 16 ≡ length s → one ≡ put d at (take i s)
      → two ≡ cond (leb i last) (put one (at + i) (take 16 (drop i s))) one → length two ≡ length d
  middle-length one two i last e p q =
      let b : Bool = leb i last in
      let fits : b ≡ true → i + 16 ≤ length s = λ t. let l : i ≤ last = leb-true i last t in omega arith in
      let m : length (take (middle b i) s) ≤ length s = simp length-take (omega arith) in
      ap length (q ∙ middle-put one i b fits p) ∙ length-put d at (take (middle b i) s) (omega arith)

  -- the first i bytes, those in the middle and the last sixteen are all
  pub put_ended : (one two : List ℕ) (i last : ℕ) → last + 16 ≡ length s → last < i + 16 → i ≤ length s → one ≡ put d at (take i s)
      → two ≡ cond (leb i last) (put one (at + i) (take 16 (drop i s))) one
      → put two (at + last) (take (length s - last) (drop last s)) ≡ put d at s
  put_ended one two i last e h k p q = go (leb i last) refl (q ∙ middle-put one i (leb i last) (λ t. fits t) p)
    where
      fits : leb i last ≡ true → i + 16 ≤ length s
      fits t = let l : i ≤ last = leb-true i last t in omega arith

      go : (b : Bool) → leb i last ≡ b → two ≡ put d at (take (middle (leb i last) i) s)
          → put two (at + last) (take (length s - last) (drop last s)) ≡ put d at s
      go true t r =
          let l : i ≤ last = leb-true i last t in
          put_last two (i + 16) last (omega arith) (omega arith) (r ∙ ap (λ (b : Bool). put d at (take (middle b i) s)) t)
      go false t r =
          let l : last < i = leb-false i last t in
          put_last two i last (omega arith) k (r ∙ ap (λ (b : Bool). put d at (take (middle b i) s)) t)

-- ---- an entry's trailer

-- request and count stored, then the bits put, then the length
pub trailer-put : (f : Form) (d mid after : List ℕ) (at q c b n k : ℕ) → k ≡ trailer_size f → at + trailer_size f ≤ length d
    → mid ≡ put (set (set d at q) (at + 1) c) (at + 2) (big (bits_size f) b) → after ≡ put mid (at + (k - 2)) (big 2 n)
    → after ≡ put d at (trailer_bytes f q c b n)
unfolding trailer_bytes
trailer-put f d mid after at q c b n k e h p r =
    let lb : length (big (bits_size f) b) ≡ bits_size f = length-big (bits_size f) b in
    let ln : length (big 2 n) ≡ 2 = length-big 2 n in
    let one : set d at q ≡ put d at (q ∷ []) = set-put d at q (omega arith) in
    let l1 : length (put d at (q ∷ [])) ≡ length d = length-put d at (q ∷ []) (omega arith) in
    let both : set (set d at q) (at + 1) c ≡ put d at (q ∷ c ∷ []) = ap (λ (x : List ℕ). set x (at + 1) c) one
    ∙ set-put (put d at (q ∷ [])) (at + 1) c (omega arith) ∙ put-put d at (q ∷ []) (c ∷ []) (omega arith) in
    let three : mid ≡ put d at (q ∷ c ∷ big (bits_size f) b) = p ∙ ap (λ (x : List ℕ). put x (at + 2) (big (bits_size f) b)) both
    ∙ put-put d at (q ∷ c ∷ []) (big (bits_size f) b) (omega arith) in
    let place : at + (k - 2) ≡ at + length (q ∷ c ∷ big (bits_size f) b) = omega arith in
    r ∙ ap (λ (x : List ℕ). put x (at + (k - 2)) (big 2 n)) three
    ∙ ap (λ (i : ℕ). put (put d at (q ∷ c ∷ big (bits_size f) b)) i (big 2 n)) place
    ∙ put-put d at (q ∷ c ∷ big (bits_size f) b) (big 2 n) (omega arith)

-- ---- the record's end

pub end-one : (f : Form) (d after t : List ℕ) (at n : ℕ) → f ≡ form.One → t ≡ to_be_bytes w32 n → after ≡ put d at t
    → after ≡ put d at (end_bytes f n)
unfolding end_bytes big
end-one f d after t at n e b p =
    p ∙ ap (put d at) (b ∙ four_bytes n ∙ sym (append-nil (big 4 n)) ∙ ap (λ (g : Form). end_bytes g n) (sym e))

marked : (n : ℕ) → big 4 n ++ (2 ∷ []) ≡ end_bytes form.Two n
unfolding end_bytes big
marked n = refl

pub end-two : (f : Form) (d mid t : List ℕ) (at n : ℕ) → f ≡ form.Two → t ≡ to_be_bytes w32 n → at + end_size f ≤ length d
    → mid ≡ put d at t → (at + 4 < length mid) × (set mid (at + 4) 2 ≡ put d at (end_bytes f n))
unfolding end_bytes
end-two f d mid t at n e b h p =
    let five : end_size f ≡ 5 = ap end_size e in
    let l : length (big 4 n) ≡ 4 = length-big 4 n in
    let m : length (put d at (big 4 n)) ≡ length d = length-put d at (big 4 n) (omega arith) in
    let q : mid ≡ put d at (big 4 n) = p ∙ ap (put d at) (b ∙ four_bytes n) in
    let long : length mid ≡ length d = ap length q ∙ m in (
      omega arith,
      ap (λ (x : List ℕ). set x (at + 4) 2) q ∙ set-put (put d at (big 4 n)) (at + 4) 2 (omega arith)
          ∙ ap (λ (i : ℕ). put (put d at (big 4 n)) (at + i) (2 ∷ [])) (sym l) ∙ put-put d at (big 4 n) (2 ∷ []) (omega arith)
          ∙ ap (put d at) (marked n ∙ ap (λ (g : Form). end_bytes g n) (sym e)),
    )
