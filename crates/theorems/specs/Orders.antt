-- DEMAND 3 ABOUT THE TEXT SESSION: for every input of bytes, questions and lines that cannot be read
-- included, it holds of the requests among the lines and of the base's bytes after the session:
-- `demand3-text`. These are the bytes that `byte_session` passes from line to line; it prints what the session
-- prints (`session-bytes`).
use Rattle.std.specs.Prelude.{◌≡◌, refl, ℕ, List, [], ◌∷◌, ◌++◌}
use Rattle.std.proofs.Common.{sym, ap, ◌∙◌, subst}
use Rattle.foundation.specs.Lists.{each}
use Rattle.model.specs.declared.Request.{Request}
use Rattle.model.specs.Base.{empty_base}
use Rattle.model.specs.Encoding.{encode}
use Rattle.model.specs.Answers.{request, requests}
use Rattle.model.specs.Text.{Line, order, asks_may, asks_when, unreadable, lines, read_line}
use Rattle.model.specs.Session.{byte_turn, turns, bytes_after}
use Rattle.theorems.specs.Demand3.{Demand3, demand3}

-- the request that a line is, if it is one
abbrev pub order_in : Line → List Request
order_in (order q) = q ∷ []
order_in (asks_may q) = []
order_in (asks_when x) = []
order_in unreadable = []

-- the requests among the lines of an input, in order
abbrev pub orders : List ℕ → List Request
orders input = each (lines input) (λ l. order_in (read_line l))

-- a line leaves what its request leaves
one_turn : (s : List ℕ) (l : Line) → (byte_turn s l).lent ≡ requests (order_in l) s
one_turn s (order q) = refl
one_turn s (asks_may q) = refl
one_turn s (asks_when x) = refl
one_turn s unreadable = refl

requests_append : (xs ys : List Request) (s : List ℕ) → requests (xs ++ ys) s ≡ requests ys (requests xs s)
requests_append [] ys s = refl
requests_append (x ∷ xs) ys s = requests_append xs ys (request s x).lent

all_turns : (ls : List (List ℕ)) (s : List ℕ) → turns ls s ≡ requests (each ls (λ l. order_in (read_line l))) s
all_turns [] s = refl
all_turns (l ∷ ls) s =
    ap (turns ls) (one_turn s (read_line l))
    ∙ all_turns ls (requests (order_in (read_line l)) s)
    ∙ sym (requests_append (order_in (read_line l)) (each ls (λ l. order_in (read_line l))) s)

pub demand3_text : (input : List ℕ) → Demand3 (orders input) (bytes_after input)
demand3_text input =
    subst (Demand3 (orders input)) (sym (all_turns (lines input) (encode empty_base))) (demand3 (orders input))
