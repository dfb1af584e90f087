-- A rack: 72 places, the numbers of their strips side by side: the left sides from 0 on, the bottoms from 72, the rights from 144, the tops from 216.
-- It holds at most 64 strips, so that at least eight places behind the last are vacant.
--   strip_at rack j    the strip at the place j
--   vacant            what stands at a place without a strip: four numbers just off the table
--   put_on rack j w    the rack with the strip w at the place j
--   strips_on rack n   the strips at the first n places, the last of them first
--   Carries rack ws     the rack holds just the strips ws, the last put on it first; each would pass as a window
use Rattle.std.specs.Prelude.{◌≡◌, List, [], ◌∷◌, ℕ, zero, suc, ◌+◌, ◌≤◌, ◌<◌, ℤ, pos, length, get_or, set}
use Rattle.grid.specs.Table.{WindowOnTable}
use Rattle.grid.specs.declared.Window.{Window}

abbrev pub strip_at : List ℤ → ℕ → Window
strip_at rack j =
    record {
      left = get_or rack j (pos 0);
      bottom = get_or rack (72 + j) (pos 0);
      right = get_or rack (144 + j) (pos 0);
      top = get_or rack (216 + j) (pos 0);
    }

abbrev pub vacant : Window
vacant = record { left = pos 16384; bottom = pos 16384; right = pos 16384; top = pos 16384 }

abbrev pub put_on : List ℤ → ℕ → Window → List ℤ
put_on rack j w = set (set (set (set rack j w.left) (72 + j) w.bottom) (144 + j) w.right) (216 + j) w.top

unfoldable pub strips_on : List ℤ → ℕ → List Window
strips_on rack zero = []
strips_on rack (suc n) = strip_at rack n ∷ strips_on rack n

pub record Carries (rack : List ℤ) (ws : List Window) : Type 0 where
  pub long : length rack ≡ 288
  pub few : length ws ≤ 64
  pub are : strips_on rack (length ws) ≡ ws
  pub on : (j : ℕ) → j < length ws → WindowOnTable (strip_at rack j)
  pub rest : (j : ℕ) → length ws ≤ j → j < 72 → strip_at rack j ≡ vacant
