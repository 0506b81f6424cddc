-- One step of the walk back: what an entry that was found before a place says of the bytes there, and which entry is found
-- before the end of an entry's bytes. Assumes nothing.
use mathlib.Core.Path.{◌≡◌, refl, sym, ap, ◌∙◌, subst}
use mathlib.Core.Bool.{Bool, true, false, cond}
use mathlib.Core.Option.{none, some}
use mathlib.Core.List.{List, [], ◌∷◌, ◌++◌, append_assoc}
use Prim.Native.Nat.{ℕ, suc, ◌+◌, ◌-◌, ◌%◌, ◌≤◌, ◌<◌}
use native.Mathlib.Omega.{arith}
use lib.Bits.{bit_and, bit_or, or_add_and, or_zero_r, and_mask}
use lib.Dec.{leb}
use lib.ListN.{length, get_or, take, drop, length-append, length-drop}
use lib.Seq.{length-take-le, take-add, drop-drop, drop-cons, get_or_at, drop_at, take_at}
use borrow.Author.Tests.{leb-true, le-leb}
use Rattle.record_forms.specs.declared.Form.{Form}
use Rattle.record_forms.specs.declared.Form.TheVariants as form
use Rattle.record_forms.specs.Forms.{bits_size, trailer_size}
use Rattle.record_bytes.specs.Layout.{RecordEntry, big, trailer_bytes, trailer, entry_bytes, EntryInRange, held}
use Rattle.record_forms.specs.Ranges.{in_range, held_bits}
use Rattle.record_bytes.specs.Reading.{number, bits_at, entry_ending, may_end, entry_before}
use Rattle.record_forms.proofs.Ranges.{and_left, and_right, bits_fit, in-range-of, held-in-range}
use Rattle.record_bytes.proofs.Numbers.{Bytes, number-big, big-number, length-big}

-- ---- an entry's bits

-- what a form keeps of the bits is kept again
pub held-twice : (f : Form) (b : ℕ) → held_bits f (held_bits f b) ≡ held_bits f b
held-twice form.One b = refl
held-twice form.Two b = refl

-- the bits that were written are read, as far as the form keeps them
bits-read : (f : Form) (b : ℕ) (p q : List ℕ) → b ≤ 65535 → bits_at f (p ++ (big (bits_size f) b ++ q)) (length p) ≡ held_bits f b
unfolding bits_at
bits-read form.One b p q h = refl
bits-read form.Two b p q h = number-big 2 b p q (omega arith)

-- the bits that were read are those that stand there
bits-stand : (f : Form) (s : List ℕ) (at : ℕ) → Bytes s → at + bits_size f ≤ length s
    → take (bits_size f) (drop at s) ≡ big (bits_size f) (bits_at f s at)
unfolding bits_at big
bits-stand form.One s at b h = refl
bits-stand form.Two s at b h = big-number 2 s at b h

-- all sixteen bits set, joined to a number of sixteen bits
or-ones : (n : ℕ) → n < 65536 → bit_or n 65535 ≡ 65535
or-ones n h =
    let a : bit_or n 65535 + bit_and n 65535 ≡ n + 65535 = or_add_and n 65535 in
    let b : bit_and n 65535 ≡ n % 65536 = and_mask n 16 in
    omega arith

-- the two bytes, joined with the unknown bits where the form has none
pub bits-joined : (f : Form) (s : List ℕ) (at n m : ℕ) → n < 65536 → n ≡ number s at 2 → m ≡ held_bits f 0
    → (bit_or n m ≡ bits_at f s at) × (bit_or n m < 65536)
unfolding bits_at
bits-joined form.One s at n m h e k =
    let r : bit_or n m ≡ 65535 = ap (bit_or n) k ∙ or-ones n h in
    (r, omega arith)
bits-joined form.Two s at n m h e k =
    let r : bit_or n m ≡ n = ap (bit_or n) k ∙ or_zero_r n in
    (r ∙ e, omega arith)

-- ---- an entry that was found

-- e was found before `end`
pub record Before (f : Form) (s : List ℕ) (end : ℕ) (e : RecordEntry) : Type 0 where
  pub size : length e.frame ≡ number s (end - 2) 2
  pub fits : length e.frame + trailer_size f ≤ end
  pub ranges : EntryInRange e
  pub found : e ≡ entry_ending f s (end - trailer_size f) (length e.frame)

module _ (f : Form) (s : List ℕ) where
  ending-length : (at size : ℕ) → at ≤ length s → size ≤ at → length (entry_ending f s at size).frame ≡ size
  unfolding entry_ending
  ending-length at size h k = length-take-le size (drop (at - size) s) (simp length-drop (omega arith))

  ending-ranges : (at size : ℕ) → in_range (get_or s at 0) (get_or s (at + 1) 0) (bits_at f s (at + 2)) size ≡ true
      → length (entry_ending f s at size).frame ≡ size → EntryInRange (entry_ending f s at size)
  unfolding entry_ending
  ending-ranges at size r l = ap (in_range (get_or s at 0) (get_or s (at + 1) 0) (bits_at f s (at + 2))) l ∙ r

  ending-before : (end size : ℕ) → end ≤ length s → size ≡ number s (end - 2) 2 → may_end f s end size ≡ true
      → Before f s end (entry_ending f s (end - trailer_size f) size)
  unfolding may_end
  ending-before end size h q m =
      let at : ℕ = end - trailer_size f in
      let i : Bool = in_range (get_or s at 0) (get_or s (at + 1) 0) (bits_at f s (at + 2)) size in
      let k : size + trailer_size f ≤ end = leb-true (size + trailer_size f) end (and_left (leb (size + trailer_size f) end) i m) in
      let l : length (entry_ending f s at size).frame ≡ size = ending-length at size (omega arith) (omega arith) in
      record {
        size = l ∙ q;
        fits = omega arith;
        ranges = ending-ranges at size (and_right (leb (size + trailer_size f) end) i m) l;
        found = ap
            (entry_ending f s at) (sym l);
      }

  pub before_of : (end : ℕ) (e : RecordEntry) → end ≤ length s → entry_before f s end ≡ some e → Before f s end e
  unfolding entry_before
  before_of end e h g = go (may_end f s end (number s (end - 2) 2)) refl g
    where
      found : RecordEntry
      found = entry_ending f s (end - trailer_size f) (number s (end - 2) 2)

      go : (b : Bool) → may_end f s end (number s (end - 2) 2) ≡ b → cond b (some found) none ≡ some e → Before f s end e
      go true m g =
          let q : found ≡ e = cc in
          subst (Before f s end) q (ending-before end (number s (end - 2) 2) h refl m)
      go false m g = let z : ◌≡◌ {A = ℕ} 0 1 = cc in absurd (omega arith)

  -- the bytes of a trailer
  trailer-stands : (a : ℕ) → Bytes s → a + trailer_size f ≤ length s
      → take (trailer_size f) (drop a s)
      ≡ trailer_bytes f (get_or s a 0) (get_or s (a + 1) 0) (bits_at f s (a + 2)) (number s (a + 2 + bits_size f) 2)
  unfolding trailer_bytes
  trailer-stands a b h =
      let k : ℕ = bits_size f in
      let u : trailer_size f ≡ suc (suc (k + 2)) = omega arith in
      let n1 : suc a ≡ a + 1 = omega arith in
      let n2 : suc (a + 1) ≡ a + 2 = omega arith in
      let x : drop a s ≡ get_or s a 0 ∷ drop (a + 1) s = drop-cons s a 0 (omega arith) ∙ ap (λ (n : ℕ). get_or s a 0 ∷ drop n s) n1 in
      let y : drop (a + 1) s ≡ get_or s (a + 1) 0 ∷ drop (a + 2) s =
      drop-cons s (a + 1) 0 (omega arith) ∙ ap (λ (n : ℕ). get_or s (a + 1) 0 ∷ drop n s) n2 in
      let w : take k (drop (a + 2) s) ≡ big k (bits_at f s (a + 2)) = bits-stand f s (a + 2) b (omega arith) in
      let z : take 2 (drop (a + 2 + k) s) ≡ big 2 (number s (a + 2 + k) 2) = big-number 2 s (a + 2 + k) b (omega arith) in
      let v : take (k + 2) (drop (a + 2) s) ≡ big k (bits_at f s (a + 2)) ++ big 2 (number s (a + 2 + k) 2) =
      take-add k 2 (drop (a + 2) s) ∙ ap (λ (l : List ℕ). take k (drop (a + 2) s) ++ take 2 l) (drop-drop k (a + 2) s)
      ∙ rw (w, z) refl in
      ap (λ (n : ℕ). take n (drop a s)) u
      ∙ ap (take (suc (suc (k + 2)))) (x ∙ ap (λ (l : List ℕ). get_or s a 0 ∷ l) y)
      ∙ ap (λ (l : List ℕ). get_or s a 0 ∷ get_or s (a + 1) 0 ∷ l) v

  before-joined : (end : ℕ) (e : RecordEntry) (size start : ℕ) → Bytes s → end ≤ length s → length e.frame ≡ size
      → size ≡ number s (end - 2) 2 → start + (size + trailer_size f) ≡ end → e ≡ entry_ending f s (end - trailer_size f) size
      → take end s ≡ take start s ++ entry_bytes f e
  unfolding entry_bytes trailer entry_ending
  before-joined end e size start b h z q g i =
      let a : end - trailer_size f ≡ start + size = omega arith in
      let r0 : start + size - size ≡ start = omega arith in
      let r3 : start + size + 2 + bits_size f ≡ end - 2 = omega arith in
      let at : ℕ = end - trailer_size f in
      let fr : e.frame ≡ take size (drop start s) = ap (λ (x : RecordEntry). x.frame) i
      ∙ ap (λ (n : ℕ). take size (drop (n - size) s)) a ∙ ap (λ (n : ℕ). take size (drop n s)) r0 in
      let rq : e.request ≡ get_or s (start + size) 0 = ap (λ (x : RecordEntry). x.request) i ∙ ap (λ (n : ℕ). get_or s n 0) a in
      let ct : e.count ≡ get_or s (start + size + 1) 0 = ap (λ (x : RecordEntry). x.count) i ∙ ap (λ (n : ℕ). get_or s (n + 1) 0) a in
      let bt : e.bits ≡ bits_at f s (start + size + 2) = ap (λ (x : RecordEntry). x.bits) i ∙ ap (λ (n : ℕ). bits_at f s (n + 2)) a in
      let ln : number s (start + size + 2 + bits_size f) 2 ≡ length e.frame = ap (λ (n : ℕ). number s n 2) r3 ∙ sym (z ∙ q) in
      let t : take (trailer_size f) (drop (start + size) s) ≡ trailer_bytes f e.request e.count e.bits (length e.frame) =
      trailer-stands (start + size) b (omega arith) ∙ rw (rq, ct, bt, ln) refl in
      ap (λ (n : ℕ). take n s) (sym g) ∙ take-add start (size + trailer_size f) s
      ∙ ap (λ (l : List ℕ). take start s ++ l)
      (take-add size (trailer_size f) (drop start s)
      ∙ ap (λ (l : List ℕ). take size (drop start s) ++ take (trailer_size f) l) (drop-drop size start s)
      ∙ ap (λ (l : List ℕ). take size (drop start s) ++ l) t
      ∙ ap (λ (l : List ℕ). l ++ trailer_bytes f e.request e.count e.bits (length e.frame)) (sym fr))

  -- the bytes up to `end` are those up to the entry's start, and the entry's
  pub before-bytes : (end : ℕ) (e : RecordEntry) → Bytes s → end ≤ length s → Before f s end e
      → take end s ≡ take (end - (length e.frame + trailer_size f)) s ++ entry_bytes f e
  before-bytes end e b h w =
      before-joined end e (length e.frame) (end - (length e.frame + trailer_size f)) b h refl w.size (omega (arith, w.fits))
      w.found

  -- an entry that was found is as the form keeps it
  pub before-held : (end : ℕ) (e : RecordEntry) → Before f s end e → held f e ≡ e
  unfolding entry_ending bits_at
  before-held end e w =
      let b : e.bits ≡ held_bits f (number s (end - trailer_size f + 2) (bits_size f)) = ap (λ (x : RecordEntry). x.bits) w.found in
      let h : held_bits f e.bits ≡ e.bits = ap (held_bits f) b ∙ held-twice f (number s (end - trailer_size f + 2) (bits_size f)) ∙ sym b in
      ap (λ (x : ℕ). record { frame = e.frame; request = e.request; count = e.count; bits = x }) h

-- ---- an entry that was written

-- the entry is found again where its bytes stand, as the form keeps it
pub before-entry : (f : Form) (p : List ℕ) (e : RecordEntry) (q : List ℕ) → EntryInRange e
    → entry_before f (p ++ (entry_bytes f e ++ q)) (length p + (length e.frame + trailer_size f)) ≡ some (held f e)
unfolding entry_before may_end entry_ending entry_bytes trailer trailer_bytes
before-entry f p e q r =
    let n : ℕ = length e.frame in
    let k : ℕ = bits_size f in
    let l : List ℕ = big 2 n ++ q in
    let s : List ℕ = p ++ ((e.frame ++ (e.request ∷ e.count ∷ (big k e.bits ++ big 2 n))) ++ q) in
    let end : ℕ = length p + (n + trailer_size f) in
    let h : List ℕ = p ++ e.frame in
    let g : List ℕ = h ++ (e.request ∷ e.count ∷ []) in
    let o = in-range-of e.request e.count e.bits n r in
    let z1 : s ≡ p ++ (e.frame ++ (e.request ∷ e.count ∷ (big k e.bits ++ l))) =
    ap (λ (x : List ℕ). p ++ x) (append_assoc e.frame (e.request ∷ e.count ∷ (big k e.bits ++ big 2 n)) q
    ∙ ap (λ (x : List ℕ). e.frame ++ (e.request ∷ e.count ∷ x)) (append_assoc (big k e.bits) (big 2 n) q)) in
    let z2 : s ≡ h ++ (e.request ∷ e.count ∷ (big k e.bits ++ l)) =
    z1 ∙ sym (append_assoc p e.frame (e.request ∷ e.count ∷ (big k e.bits ++ l))) in
    let z3 : s ≡ (h ++ (e.request ∷ [])) ++ (e.count ∷ (big k e.bits ++ l)) =
    z2 ∙ sym (append_assoc h (e.request ∷ []) (e.count ∷ (big k e.bits ++ l))) in
    let z4 : s ≡ g ++ (big k e.bits ++ l) = z2 ∙ sym (append_assoc h (e.request ∷ e.count ∷ []) (big k e.bits ++ l)) in
    let z5 : s ≡ (g ++ big k e.bits) ++ l = z4 ∙ sym (append_assoc g (big k e.bits) l) in
    let lh : length h ≡ length p + n = length-append p e.frame in
    let lg : length g ≡ length h + 2 = length-append h (e.request ∷ e.count ∷ []) in
    let lb : length (g ++ big k e.bits) ≡ length g + k = length-append g (big k e.bits)
    ∙ ap (λ (m : ℕ). length g + m) (length-big k e.bits) in
    let at : end - trailer_size f ≡ length h = omega arith in
    let size : number s (end - 2) 2 ≡ n = ap (λ (t : List ℕ). number t (end - 2) 2) z5
    ∙ ap (λ (i : ℕ). number ((g ++ big k e.bits) ++ l) i 2) (omega arith) ∙ number-big 2 n (g ++ big k e.bits) q (omega arith) in
    let rq : get_or s (end - trailer_size f) 0 ≡ e.request = ap (λ (t : List ℕ). get_or t (end - trailer_size f) 0) z2
    ∙ get_or_at h e.request (e.count ∷ (big k e.bits ++ l)) 0 (end - trailer_size f) (sym at) in
    let l3 : length (h ++ (e.request ∷ [])) ≡ end - trailer_size f + 1 = length-append h (e.request ∷ []) ∙ (omega arith) in
    let ct : get_or s (end - trailer_size f + 1) 0 ≡ e.count = ap (λ (t : List ℕ). get_or t (end - trailer_size f + 1) 0) z3
    ∙ get_or_at (h ++ (e.request ∷ [])) e.count (big k e.bits ++ l) 0 (end - trailer_size f + 1) l3 in
    let bt : bits_at f s (end - trailer_size f + 2) ≡ held_bits f e.bits = ap (λ (t : List ℕ). bits_at f t (end - trailer_size f + 2)) z4
    ∙ ap (bits_at f (g ++ (big k e.bits ++ l))) (omega arith) ∙ bits-read f e.bits g l (bits_fit e.count e.bits o.4) in
    let st : length p ≡ end - trailer_size f - n = omega arith in
    let fr : take n (drop (end - trailer_size f - n) s) ≡ e.frame =
    ap (λ (t : List ℕ). take n (drop (end - trailer_size f - n) t)) z1
    ∙ ap (take n) (drop_at p (e.frame ++ (e.request ∷ e.count ∷ (big k e.bits ++ l))) (end - trailer_size f - n) st)
    ∙ take_at e.frame (e.request ∷ e.count ∷ (big k e.bits ++ l)) n refl in
    let m : leb (n + trailer_size f) end ≡ true = le-leb (n + trailer_size f) end (omega arith) in
    let i : in_range e.request e.count (held_bits f e.bits) n ≡ true = held-in-range f e.request e.count e.bits n r in
    simp (size, rq, ct, bt, fr, m, i)
