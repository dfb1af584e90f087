-- Measures as a text has them.
--   thousandths n t   n thousandths, with three decimals, and the bytes t that stand after them
--   decimals k r      the decimals of r of 32, k at the most, by long division: as long as anything is left, the whole part of ten times that
--   millimetres n     a length of n grid steps in millimetres, of which each has 32: exact, since 32 divides 100,000, and with no zero at the end
use Rattle.std.specs.Prelude.{List, [], ◌++◌, ℕ, zero, suc, ◌*◌, ◌/◌, ◌%◌, eqb}
use Rattle.whole.specs.Choice.{when◌then◌else◌}
use Rattle.text.specs.Pages.{ascii, natural}

unfoldable pub thousandths : ℕ → List ℕ → List ℕ
thousandths n t = (natural (n / 1000) ++ ascii ".") ++ natural (n / 100 % 10) ++ natural (n / 10 % 10) ++ (natural (n % 10) ++ t)

unfoldable pub decimals : ℕ → ℕ → List ℕ
decimals zero r = []
decimals (suc k) r = when eqb r 0 then [] else natural (r * 10 / 32) ++ decimals k (r * 10 % 32)

unfoldable pub millimetres : ℕ → List ℕ
millimetres n = when eqb (n % 32) 0 then natural (n / 32) else (natural (n / 32) ++ ascii ".") ++ decimals 5 (n % 32)
