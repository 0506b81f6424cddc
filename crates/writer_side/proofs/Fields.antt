-- Fields written in a row: what it says that values fit a list of fields, and that their bits, field after field, are the list's own.
-- Assumes nothing.
use mathlib.Core.Path.{◌≡◌, refl, sym, ap, ◌∙◌}
use mathlib.Core.Bool.{true, ◌&&◌}
use mathlib.Core.List.{List, [], ◌∷◌, ◌++◌, append-nil}
use Prim.Native.Nat.{ℕ, ◌+◌, ◌-◌, ◌*◌, ◌^◌, ◌<◌}
use lib.Dec.{ltb}
use lib.ListN.{replicate}
use borrow.Author.Tests.{ltb-true}
use Rattle.frame_bits.specs.Fields.{FieldList, ends, field, Rule, obeys, value_bits, list_bits, list_fits}
use Rattle.frame_settings.specs.Settings.{filters_of}
use Rattle.frame_settings.specs.declared.Setting.{Setting}
use Rattle.frame_shape.specs.Shape.{shape_fields}
use Rattle.frame_shape.specs.declared.Shape.{Shape}
use Rattle.frame_side.specs.Side.{last_pair, second_flag, head_fields, flags_fields, tail_fields, side_fields}
use Rattle.frame_side.specs.declared.Head.{Head}
use Rattle.frame_side.specs.declared.Flags.{Flags}
use Rattle.frame_side.specs.declared.Tail.{Tail}
use Rattle.frame_side.specs.declared.Side.{Side}
use Rattle.writer_laws.specs.SideBits.{head_values, flags_values, shape_values, tail_values, side_values}
use Rattle.writer_laws.proofs.Given.{both_hold}
use Rattle.writer_laws.proofs.SideParts.{side-parts, side-bits}
use Rattle.writer_steps.specs.Cursors.{Kept, Puts}
use Rattle.writer_steps.specs.declared.Cursor.{Cursor}
use Rattle.writer_bits.proofs.Putting.{puts-both, none_kept}

-- a value that fits has no more bits than its field, and those behind it fit theirs
pub first_fits : {A : Type 0} (w : ℕ) (rule : Rule) (rest : ℕ → FieldList A) (x : ℕ) (xs : List ℕ)
    → list_fits (field w rule rest) (x ∷ xs) ≡ true → (x < 2 ^ w) × (list_fits (rest x) xs ≡ true)
unfolding list_fits
first_fits w rule rest x xs h =
    let p = both_hold (ltb x (2 ^ w)) (obeys rule x && list_fits (rest x) xs) h in
    (ltb-true x (2 ^ w) p.0, (both_hold (obeys rule x) (list_fits (rest x) xs) p.1).1)

-- a field, and those behind it
pub first-puts : {A : Type 0} (w : ℕ) (rule : Rule) (rest : ℕ → FieldList A) (x : ℕ) (xs s₀ s₁ s₂ : List ℕ) (c₀ c₁ c₂ : Cursor)
    → Puts (value_bits x w) s₀ s₁ c₀ c₁ → Puts (list_bits (rest x) xs) s₁ s₂ c₁ c₂
    → Puts (list_bits (field w rule rest) (x ∷ xs)) s₀ s₂ c₀ c₂
unfolding list_bits
first-puts w rule rest x xs s₀ s₁ s₂ c₀ c₁ c₂ p q = puts-both (value_bits x w) (list_bits (rest x) xs) s₀ s₁ s₂ c₀ c₁ c₂ p q

-- the last field
pub last-puts : {A : Type 0} (w : ℕ) (rule : Rule) (made : ℕ → A) (x : ℕ) (s₀ s₁ : List ℕ) (c₀ c₁ : Cursor)
    → Puts (value_bits x w) s₀ s₁ c₀ c₁ → Puts (list_bits (field w rule (λ y. ends (made y))) (x ∷ [])) s₀ s₁ c₀ c₁
unfolding list_bits
last-puts w rule made x s₀ s₁ c₀ c₁ p = rw (append-nil (value_bits x w)) p

-- a field written under other names for its value and its width
pub same-puts : (x y n m : ℕ) (s₀ s₁ : List ℕ) (c₀ c₁ : Cursor) → x ≡ y → n ≡ m → Puts (value_bits x n) s₀ s₁ c₀ c₁
    → Puts (value_bits y m) s₀ s₁ c₀ c₁
same-puts x y n m s₀ s₁ c₀ c₁ e d p l k =
    let a : value_bits x n ≡ value_bits y m = rw (e, d) in
    rw (← a) (p l k)

-- ---- the four parts of the side information: each value within its width, and each part's puts in a row
pub head_fit : (r : Setting) (h : Head) → list_fits (head_fields r) (head_values h) ≡ true
    → (h.bandwidth < 2 ^ r.bandwidth) × (last_pair h.last_line < 2 ^ r.pair) × (h.lsb_mode < 2) × (h.gain < 256)
head_fit r h e =
    let a = first_fits _ _ _ _ _ e in
    let b = first_fits _ _ _ _ _ a.1 in
    let c = first_fits _ _ _ _ _ b.1 in
    let d = first_fits _ _ _ _ _ c.1 in
    (a.0, b.0, c.0, d.0)

pub head_puts :
    (r : Setting) (h : Head) (x₀ x₁ x₂ x₃ : ℕ) (s₀ s₁ s₂ s₃ s₄ : List ℕ) (c₀ c₁ c₂ c₃ c₄ : Cursor) → x₀ ≡ h.bandwidth
    → x₁ ≡ last_pair h.last_line → x₂ ≡ h.lsb_mode → x₃ ≡ h.gain → Puts (value_bits x₀ r.bandwidth) s₀ s₁ c₀ c₁
    → Puts (value_bits x₁ r.pair) s₁ s₂ c₁ c₂ → Puts (value_bits x₂ 1) s₂ s₃ c₂ c₃ → Puts (value_bits x₃ 8) s₃ s₄ c₃ c₄
    → Puts (list_bits (head_fields r) (head_values h)) s₀ s₄ c₀ c₄
head_puts r h x₀ x₁ x₂ x₃ s₀ s₁ s₂ s₃ s₄ c₀ c₁ c₂ c₃ c₄ e₀ e₁ e₂ e₃ p₀ p₁ p₂ p₃ =
    first-puts _ _ _ _ _ s₀ s₁ s₄ c₀ c₁ c₄ (same-puts _ _ _ _ s₀ s₁ c₀ c₁ e₀ refl p₀)
    (first-puts _ _ _ _ _ s₁ s₂ s₄ c₁ c₂ c₄ (same-puts _ _ _ _ s₁ s₂ c₁ c₂ e₁ refl p₁)
    (first-puts _ _ _ _ _ s₂ s₃ s₄ c₂ c₃ c₄ (same-puts _ _ _ _ s₂ s₃ c₂ c₃ e₂ refl p₂)
    (last-puts _ _ _ _ s₃ s₄ c₃ c₄ (same-puts _ _ _ _ s₃ s₄ c₃ c₄ e₃ refl p₃))))

pub flags_fit : (m b : ℕ) (f : Flags) → list_fits (flags_fields m b) (flags_values f) ≡ true
    → (f.tns_0 < 2) × (f.tns_1 < 2 ^ second_flag m b) × (f.pitch_present < 2)
flags_fit m b f e =
    let x = first_fits _ _ _ _ _ e in
    let y = first_fits _ _ _ _ _ x.1 in
    let z = first_fits _ _ _ _ _ y.1 in
    (x.0, y.0, z.0)

pub flags-puts :
    (m b : ℕ) (f : Flags) (n x₀ x₁ x₂ : ℕ) (s₀ s₁ s₂ s₃ : List ℕ) (c₀ c₁ c₂ c₃ : Cursor) → n ≡ second_flag m b → x₀ ≡ f.tns_0
    → x₁ ≡ f.tns_1 → x₂ ≡ f.pitch_present → Puts (value_bits x₀ 1) s₀ s₁ c₀ c₁ → Puts (value_bits x₁ n) s₁ s₂ c₁ c₂
    → Puts (value_bits x₂ 1) s₂ s₃ c₂ c₃ → Puts (list_bits (flags_fields m b) (flags_values f)) s₀ s₃ c₀ c₃
flags-puts m b f n x₀ x₁ x₂ s₀ s₁ s₂ s₃ c₀ c₁ c₂ c₃ d e₀ e₁ e₂ p₀ p₁ p₂ =
    first-puts _ _ _ _ _ s₀ s₁ s₃ c₀ c₁ c₃ (same-puts _ _ _ _ s₀ s₁ c₀ c₁ e₀ refl p₀)
    (first-puts _ _ _ _ _ s₁ s₂ s₃ c₁ c₂ c₃ (same-puts _ _ _ _ s₁ s₂ c₁ c₂ e₁ d p₁)
    (last-puts _ _ _ _ s₂ s₃ c₂ c₃ (same-puts _ _ _ _ s₂ s₃ c₂ c₃ e₂ refl p₂)))

-- its first fact is the premise, by which `grind` finds it
pub shape_fit : (q : Shape) → list_fits shape_fields (shape_values q) ≡ true
    → (list_fits shape_fields (shape_values q) ≡ true) × (q.low < 32) × (q.high < 32) × (q.mode < 2) × (q.gain < 2 ^ (1 + q.mode))
    × (q.sign < 2) × (q.joint < 2 ^ (25 - q.mode))
shape_fit q e =
    let a = first_fits _ _ _ _ _ e in
    let b = first_fits _ _ _ _ _ a.1 in
    let c = first_fits _ _ _ _ _ b.1 in
    let d = first_fits _ _ _ _ _ c.1 in
    let f = first_fits _ _ _ _ _ d.1 in
    let g = first_fits _ _ _ _ _ f.1 in
    (e, a.0, b.0, c.0, d.0, f.0, g.0)

pub shape-puts :
    (q : Shape) (x₀ x₁ m x₃ x₄ x₅ : ℕ) (s₀ s₁ s₂ s₃ s₄ s₅ s₆ : List ℕ) (c₀ c₁ c₂ c₃ c₄ c₅ c₆ : Cursor) → x₀ ≡ q.low → x₁ ≡ q.high
    → m ≡ q.mode → x₃ ≡ q.gain → x₄ ≡ q.sign → x₅ ≡ q.joint → Puts (value_bits x₀ 5) s₀ s₁ c₀ c₁
    → Puts (value_bits x₁ 5) s₁ s₂ c₁ c₂ → Puts (value_bits m 1) s₂ s₃ c₂ c₃ → Puts (value_bits x₃ (1 + m)) s₃ s₄ c₃ c₄
    → Puts (value_bits x₄ 1) s₄ s₅ c₄ c₅ → Puts (value_bits x₅ (25 - m)) s₅ s₆ c₅ c₆
    → Puts (list_bits shape_fields (shape_values q)) s₀ s₆ c₀ c₆
shape-puts q x₀ x₁ m x₃ x₄ x₅ s₀ s₁ s₂ s₃ s₄ s₅ s₆ c₀ c₁ c₂ c₃ c₄ c₅ c₆ e₀ e₁ e₂ e₃ e₄ e₅ p₀ p₁ p₂ p₃ p₄ p₅ =
    first-puts _ _ _ _ _ s₀ s₁ s₆ c₀ c₁ c₆ (same-puts _ _ _ _ s₀ s₁ c₀ c₁ e₀ refl p₀)
    (first-puts _ _ _ _ _ s₁ s₂ s₆ c₁ c₂ c₆ (same-puts _ _ _ _ s₁ s₂ c₁ c₂ e₁ refl p₁)
    (first-puts _ _ _ _ _ s₂ s₃ s₆ c₂ c₃ c₆ (same-puts _ _ _ _ s₂ s₃ c₂ c₃ e₂ refl p₂)
    (first-puts _ _ _ _ _ s₃ s₄ s₆ c₃ c₄ c₆ (same-puts _ _ _ _ s₃ s₄ c₃ c₄ e₃ (ap (λ (y : ℕ). 1 + y) e₂) p₃)
    (first-puts _ _ _ _ _ s₄ s₅ s₆ c₄ c₅ c₆ (same-puts _ _ _ _ s₄ s₅ c₄ c₅ e₄ refl p₄)
    (last-puts _ _ _ _ s₅ s₆ c₅ c₆ (same-puts _ _ _ _ s₅ s₆ c₅ c₆ e₅ (ap (λ (y : ℕ). 25 - y) e₂) p₅))))))

pub tail_fit : (pitch : ℕ) (t : Tail) → list_fits (tail_fields pitch) (tail_values t) ≡ true
    → (t.filter_flag < 2 ^ pitch) × (t.pitch_index < 2 ^ (9 * pitch)) × (t.noise_level < 8)
tail_fit pitch t e =
    let x = first_fits _ _ _ _ _ e in
    let y = first_fits _ _ _ _ _ x.1 in
    let z = first_fits _ _ _ _ _ y.1 in
    (x.0, y.0, z.0)

pub tail-puts :
    (pitch : ℕ) (t : Tail) (x₀ x₁ x₂ : ℕ) (s₀ s₁ s₂ s₃ : List ℕ) (c₀ c₁ c₂ c₃ : Cursor) → x₀ ≡ t.filter_flag → x₁ ≡ t.pitch_index
    → x₂ ≡ t.noise_level → Puts (value_bits x₀ pitch) s₀ s₁ c₀ c₁ → Puts (value_bits x₁ (9 * pitch)) s₁ s₂ c₁ c₂
    → Puts (value_bits x₂ 3) s₂ s₃ c₂ c₃ → Puts (list_bits (tail_fields pitch) (tail_values t)) s₀ s₃ c₀ c₃
tail-puts pitch t x₀ x₁ x₂ s₀ s₁ s₂ s₃ c₀ c₁ c₂ c₃ e₀ e₁ e₂ p₀ p₁ p₂ =
    first-puts _ _ _ _ _ s₀ s₁ s₃ c₀ c₁ c₃ (same-puts _ _ _ _ s₀ s₁ c₀ c₁ e₀ refl p₀)
    (first-puts _ _ _ _ _ s₁ s₂ s₃ c₁ c₂ c₃ (same-puts _ _ _ _ s₁ s₂ c₁ c₂ e₁ refl p₁)
    (last-puts _ _ _ _ s₂ s₃ c₂ c₃ (same-puts _ _ _ _ s₂ s₃ c₂ c₃ e₂ refl p₂)))

-- ---- the side information part by part

module _ (r : Setting) (v : Side) where
  abbrev pub parts_fit : Type 0
  parts_fit =
      (list_fits (head_fields r) (head_values v.head) ≡ true)
      × (list_fits (flags_fields (filters_of r.duration) v.head.bandwidth) (flags_values v.flags) ≡ true)
      × (list_fits shape_fields (shape_values v.shape) ≡ true)
      × (list_fits (tail_fields v.flags.pitch_present) (tail_values v.tail) ≡ true)

  pub side_parts : list_fits (side_fields r) (side_values v) ≡ true → parts_fit
  side_parts h =
      let p = both_hold _ _ (sym (side-parts r v) ∙ h) in
      let q = both_hold _ _ p.1 in
      let o = both_hold _ _ q.1 in
      (p.0, q.0, o.0, o.1)

-- the parts under other names for what they depend on
pub flags-same : (m n b d : ℕ) (f : Flags) → m ≡ n → b ≡ d → list_fits (flags_fields n d) (flags_values f) ≡ true
    → list_fits (flags_fields m b) (flags_values f) ≡ true
flags-same m n b d f e g h = rw (e, g) h

pub tail-same : (p q : ℕ) (t : Tail) → p ≡ q → list_fits (tail_fields q) (tail_values t) ≡ true
    → list_fits (tail_fields p) (tail_values t) ≡ true
tail-same p q t e h = rw e h

-- the four parts in a row, into room of zeros
pub side-puts :
    (r : Setting) (v : Side) (m b p : ℕ) (s₀ s₁ s₂ s₃ s₄ : List ℕ) (c₁ c₂ c₃ c₄ : Cursor) → m ≡ filters_of r.duration
    → b ≡ v.head.bandwidth → p ≡ v.flags.pitch_present → s₀ ≡ replicate 512 0
    → Puts (list_bits (head_fields r) (head_values v.head)) s₀ s₁ (record { at = 0; held = 0 }) c₁
    → Puts (list_bits (flags_fields m b) (flags_values v.flags)) s₁ s₂ c₁ c₂
    → Puts (list_bits shape_fields (shape_values v.shape)) s₂ s₃ c₂ c₃
    → Puts (list_bits (tail_fields p) (tail_values v.tail)) s₃ s₄ c₃ c₄ → Kept (list_bits (side_fields r) (side_values v)) s₄ c₄
side-puts r v m b p s₀ s₁ s₂ s₃ s₄ c₁ c₂ c₃ c₄ e g h z p₀ p₁ p₂ p₃ =
    let w₀ : List ℕ = list_bits (head_fields r) (head_values v.head) in
    let w₁ : List ℕ = list_bits (flags_fields m b) (flags_values v.flags) in
    let w₂ : List ℕ = list_bits shape_fields (shape_values v.shape) in
    let w₃ : List ℕ = list_bits (tail_fields p) (tail_values v.tail) in
    let d : list_bits (side_fields r) (side_values v) ≡ w₀ ++ (w₁ ++ (w₂ ++ w₃)) = rw (e, g, h) (side-bits r v) in
    rw d
    (puts-both w₀ (w₁ ++ (w₂ ++ w₃)) s₀ s₁ s₄ (record { at = 0; held = 0 }) c₁ c₄ p₀
    (puts-both w₁ (w₂ ++ w₃) s₁ s₂ s₄ c₁ c₂ c₄ p₁ (puts-both w₂ w₃ s₂ s₃ s₄ c₂ c₃ c₄ p₂ p₃)) [] (none_kept s₀ z))
