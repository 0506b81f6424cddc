-- The side information part by part: which values fit it, and which bits are written for them. Assumes nothing.
use mathlib.Core.Path.{◌≡◌, refl, sym, ap, ◌∙◌}
use mathlib.Core.Bool.{Bool, true, false, ◌&&◌}
use mathlib.Core.List.{List, [], ◌∷◌, ◌++◌, append_assoc}
use Prim.Native.Nat.{ℕ, ◌+◌, ◌*◌, ◌^◌}
use lib.Dec.{ltb}
use Rattle.frame_bits.specs.Fields.{FieldList, ends, field, followed, obeys, value_bits, list_bits, list_fits}
use Rattle.frame_settings.specs.Settings.{filters_of}
use Rattle.frame_settings.specs.declared.Setting.{Setting}
use Rattle.frame_shape.specs.Shape.{shape_fields}
use Rattle.frame_shape.specs.declared.Shape.{Shape}
use Rattle.frame_side.specs.Side.{last_pair, head_fields, flags_fields, tail_fields, from_tail, from_shape, from_flags, side_fields}
use Rattle.frame_side.specs.declared.Head.{Head}
use Rattle.frame_side.specs.declared.Flags.{Flags}
use Rattle.frame_side.specs.declared.Tail.{Tail}
use Rattle.frame_side.specs.declared.Side.{Side}
use Rattle.writer_laws.specs.SideBits.{head_values, flags_values, shape_values, tail_values, side_values}

-- ---- one list behind another

-- the list, at these values, makes a
abbrev pub Makes : {A : Type 0} → FieldList A → List ℕ → A → Type 0
Makes (ends a) [] b = a ≡ b
Makes (ends a) (x ∷ xs) b = ⊥
Makes (field w rule rest) [] b = ⊥
Makes (field w rule rest) (x ∷ xs) b = Makes (rest x) xs b

pub fits-behind : {A B : Type 0} (l : FieldList A) (k : A → FieldList B) (xs ys : List ℕ) (a : A) → Makes l xs a
    → list_fits (followed l k) (xs ++ ys) ≡ list_fits l xs && list_fits (k a) ys
unfolding list_fits
fits-behind (ends b) k [] ys a e = rw e
fits-behind (ends b) k (x ∷ xs) ys a e = absurd e
fits-behind (field w rule rest) k [] ys a e = absurd e
fits-behind (field w rule rest) k (x ∷ xs) ys a e =
    rw (fits-behind (rest x) k xs ys a e)
    (and-more (ltb x (2 ^ w)) (obeys rule x) (list_fits (rest x) xs) (list_fits (k a) ys))
  where
    and-more : (a b c d : Bool) → a && (b && (c && d)) ≡ a && (b && c) && d
    and-more true true c d = refl
    and-more true false c d = refl
    and-more false b c d = refl

pub bits-behind : {A B : Type 0} (l : FieldList A) (k : A → FieldList B) (xs ys : List ℕ) (a : A) → Makes l xs a
    → list_bits (followed l k) (xs ++ ys) ≡ list_bits l xs ++ list_bits (k a) ys
unfolding list_bits
bits-behind (ends b) k [] ys a m = rw m refl
bits-behind (ends b) k (x ∷ xs) ys a m = absurd m
bits-behind (field w rule rest) k [] ys a m = absurd m
bits-behind (field w rule rest) k (x ∷ xs) ys a m =
    let r = bits-behind (rest x) k xs ys a m in
    ap (λ (z : List ℕ). value_bits x w ++ z) r ∙ sym (append_assoc (value_bits x w) (list_bits (rest x) xs) (list_bits (k a) ys))

-- ---- the side information is its four parts

-- the head that is made has the field's last line
abbrev field_head : Head → Head
field_head h =
    record { bandwidth = h.bandwidth; last_line = 2 * (last_pair h.last_line + 1); lsb_mode = h.lsb_mode; gain = h.gain }

-- nothing stands behind the tail
tail-last : (h : Head) (f : Flags) (q : Shape) (t : Tail)
    → list_fits (from_tail h f q) (tail_values t) ≡ list_fits (tail_fields f.pitch_present) (tail_values t)
unfolding list_fits
tail-last h f q t = refl

pub side-parts : (r : Setting) (v : Side) → list_fits (side_fields r) (side_values v)
    ≡ list_fits (head_fields r) (head_values v.head)
    && (list_fits (flags_fields (filters_of r.duration) v.head.bandwidth) (flags_values v.flags)
    && (list_fits shape_fields (shape_values v.shape) && list_fits (tail_fields v.flags.pitch_present) (tail_values v.tail)))
side-parts r v =
    let n = filters_of r.duration in
    let b = v.head in
    let h = field_head b in
    let f = v.flags in
    let q = v.shape in
    let last = tail_values v.tail in
    let behind = shape_values q ++ last in
    let e1 = fits-behind (head_fields r) (from_flags n) (head_values b) (flags_values f ++ behind) h refl in
    let e2 = fits-behind (flags_fields n b.bandwidth) (from_shape h) (flags_values f) behind f refl in
    let e3 = fits-behind shape_fields (from_tail h f) (shape_values q) last q refl in
    let e4 = tail-last h f q v.tail in
    e1 ∙ ap (λ (x : Bool). list_fits (head_fields r) (head_values b) && x)
    (e2 ∙ ap (λ (x : Bool). list_fits (flags_fields n b.bandwidth) (flags_values f) && x)
    (e3 ∙ ap (λ (x : Bool). list_fits shape_fields (shape_values q) && x) e4))

-- the same of the bits
tail-bits : (h : Head) (f : Flags) (q : Shape) (t : Tail)
    → list_bits (from_tail h f q) (tail_values t) ≡ list_bits (tail_fields f.pitch_present) (tail_values t)
unfolding list_bits
tail-bits h f q t = refl

pub side-bits : (r : Setting) (v : Side) → list_bits (side_fields r) (side_values v)
    ≡ list_bits (head_fields r) (head_values v.head)
    ++ (list_bits (flags_fields (filters_of r.duration) v.head.bandwidth) (flags_values v.flags)
    ++ (list_bits shape_fields (shape_values v.shape) ++ list_bits (tail_fields v.flags.pitch_present) (tail_values v.tail)))
side-bits r v =
    let n = filters_of r.duration in
    let h = field_head v.head in
    let f = v.flags in
    let q = v.shape in
    let last = tail_values v.tail in
    let behind = shape_values q ++ last in
    let e1 = bits-behind (head_fields r) (from_flags n) (head_values v.head) (flags_values f ++ behind) h refl in
    let e2 = bits-behind (flags_fields n h.bandwidth) (from_shape h) (flags_values f) behind f refl in
    let e3 = bits-behind shape_fields (from_tail h f) (shape_values q) last q refl in
    rw (e1, e2, e3, tail-bits h f q v.tail)
