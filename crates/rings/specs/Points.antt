-- Points and lines of the plane in whole numbers: on which side of a line a point lies, and when two points are the same.
--   Point         (X, Y, W), which stands for the point (X/W, Y/W)
--   Line          (A, B, C), which has the value A·X + B·Y + C·W at a point and its inside where that is positive
--   value h p     the value of the line h at p
--   through a b   the line from a to b, its inside to the left
--   det a b p     the determinant of the rows a, b, p, which is the value at p of the line from a to b
--   Left a b p    p lies strictly left of the line from a to b
--   LeftOn a b p  p lies left of the line from a to b or on it
--   In h p        p lies inside h or on it
--   Over h p      p lies strictly inside h
--   Out h p       p lies strictly outside h
--   Under h p     p lies outside h or on it
--   On h p        p lies on h
--   Real h        h is positive somewhere, so it is not (0, 0, 0)
--   Proper p      W is positive, as it has to be
--   Same p q      p and q are the same point of the plane, perhaps in other numbers
--   Alike r s     r and s are the same points one by one, perhaps in other numbers
--   Before p q    p lies lower than q, or as low and further left
use Rattle.std.specs.Prelude.{◌≡◌, List, [], ◌∷◌, ℤ, pos, ◌+ℤ◌, ◌-ℤ◌, ◌*ℤ◌, ◌≤ℤ◌, ◌<ℤ◌}

pub record Point : Type 0 where
  pub X : ℤ
  pub Y : ℤ
  pub W : ℤ

pub record Line : Type 0 where
  pub A : ℤ
  pub B : ℤ
  pub C : ℤ

unfoldable pub value : Line → Point → ℤ
value h p = h.A *ℤ p.X +ℤ h.B *ℤ p.Y +ℤ h.C *ℤ p.W

unfoldable pub through : Point → Point → Line
through a b = record { A = a.Y *ℤ b.W -ℤ a.W *ℤ b.Y; B = a.W *ℤ b.X -ℤ a.X *ℤ b.W; C = a.X *ℤ b.Y -ℤ a.Y *ℤ b.X }

abbrev pub det : Point → Point → Point → ℤ
det a b p = value (through a b) p

pub record Left (a b p : Point) : Type 0 where
  pub left : pos 0 <ℤ det a b p

pub record LeftOn (a b p : Point) : Type 0 where
  pub left_on : pos 0 ≤ℤ det a b p

-- ---- where a point lies
abbrev pub In : Line → Point → Type 0
In h p = pos 0 ≤ℤ value h p

abbrev pub Over : Line → Point → Type 0
Over h p = pos 0 <ℤ value h p

abbrev pub Out : Line → Point → Type 0
Out h p = value h p <ℤ pos 0

abbrev pub Under : Line → Point → Type 0
Under h p = value h p ≤ℤ pos 0

abbrev pub On : Line → Point → Type 0
On h p = value h p ≡ pos 0

abbrev pub Real : Line → Type 0
Real h = (q : Point) × Over h q

-- ---- the same point
abbrev pub Proper : Point → Type 0
Proper p = pos 0 <ℤ p.W

pub record Same (p q : Point) : Type 0 where
  pub first : Proper p
  pub second : Proper q
  pub x : p.X *ℤ q.W ≡ q.X *ℤ p.W
  pub y : p.Y *ℤ q.W ≡ q.Y *ℤ p.W

infixr 60 ◌◂ˢ◌
pub data Alike : List Point → List Point → Type 0 where
  ∅ˢ : Alike [] []
  ◌◂ˢ◌ : {p q : Point} {r s : List Point} → Same p q → Alike r s → Alike (p ∷ r) (q ∷ s)

-- ---- which comes first
pub data Before (p q : Point) : Type 0 where
  lower : (p.Y *ℤ q.W) <ℤ (q.Y *ℤ p.W) → Before p q
  level : p.Y *ℤ q.W ≡ q.Y *ℤ p.W → (p.X *ℤ q.W) <ℤ (q.X *ℤ p.W) → Before p q
