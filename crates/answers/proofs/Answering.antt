-- What is put on a page from its front on is an answer, and an answer that says one thing says what follows from it.
use mathlib.Core.Path.{◌≡◌}
use mathlib.Core.List.{List}
use Prim.Native.Nat.{ℕ}
use Rattle.text.specs.Pages.{Put}
use Rattle.answers.specs.declared.Reply.{Reply}
use Rattle.answers.specs.Answers.{Exactly, Answers}

pub put_answers : {before after word : List ℕ} (r : Reply) {number : ℕ} → Put before after 0 r.end word → r.number ≡ number
    → Answers (Exactly word number) after r
put_answers r p e = record { fits = p.fits; says = (p.text, e) }

pub answers_by : {Says Means : List ℕ → ℕ → Type 0} {page : List ℕ} {r : Reply} → ((t : List ℕ) (n : ℕ) → Says t n → Means t n)
    → Answers Says page r → Answers Means page r
answers_by f a = record { fits = a.fits; says = f _ _ a.says }
