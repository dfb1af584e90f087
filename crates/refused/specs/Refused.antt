-- The picture of a refusal.
--   refused_title n p    its size, which has room for the longest sentence, and the title: the number n, the place p, and what n means
--   refused_picture n p  the same in two lines
use Rattle.std.specs.Prelude.{List, ◌++◌, ℕ}
use Rattle.text.specs.Pages.{ascii, refusal}
use Rattle.refusals.specs.Words.{sentence, refusal_words}

unfoldable pub refused_title : ℕ → ℕ → List ℕ
refused_title n p =
    ascii "<svg xmlns=\"http://www.w3.org/2000/svg\" font-family=\"sans-serif\" width=\"760\" height=\"96\">\n<title>" ++ refusal_words n p
    ++ ascii "</title>\n<rect width=\"100%\" height=\"100%\" fill=\"white\"/>\n"

unfoldable pub refused_picture : ℕ → ℕ → List ℕ
refused_picture n p =
    refused_title n p ++ ascii "<g fill=\"#8c2f23\" font-size=\"16\">\n<text x=\"24\" y=\"42\">" ++ (refusal n p ++ ascii "<")
    ++ ascii "/text>\n<text x=\"24\" y=\"68\">" ++ sentence n ++ ascii "</text>\n</g>\n</svg>\n"
