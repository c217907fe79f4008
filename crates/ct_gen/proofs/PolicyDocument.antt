-- The document that the policy of generated code writes.
use Rattle.std.proofs.Common.{◌≡◌, ℕ, suc, ◌-◌, ◌^◌, ◌<◌, true, false, ◌==◌, pos, List, [], ◌∷◌, ◌++◌, length, codes, decimal, Option, Some, None, option_and_then, refl, sym, ap, ◌∙◌, arith, lit<, lit≤}
use Rattle.std.proofs.lemmas.Bool.Decides.{nat_tests}
use Rattle.std.proofs.lemmas.Fmt.{decimal_digit, decimal_step}
use Rattle.toml_parser.specs.Lexical.{skip_blank}
use Rattle.toml_parser.proofs.LexicalLemmas.{skip_from-nil}
use Rattle.toml_writer.specs.Text.{needs_escape, quotes_after, escaped, encoding_of, string_text, key_text}
use Rattle.toml.specs.Data.{string, integer, array, table, no_items, item, Members, no_members, member}
use Rattle.toml.specs.Tables.{Nodes, no_nodes, node, value, open_table, open_array, header, Document, Expression, key_value, std_table, array_table, along_dots, along_header, at_key, define}
use Rattle.toml.specs.Parse.{skip_bom, line, lines, parse_document}
use Rattle.toml.specs.Text.{IsLineText}
use Rattle.toml.proofs.Turns.{document_some, lines_end, lines_more, lines_refused}
use Rattle.toml.proofs.Blanks.{skip_newline, skip_within}
use Rattle.toml.proofs.ReadLines.{run, AllPrinted, line_turn}

-- the lines of a document, with nothing between them
abbrev ArePlain : List Expression → List ℕ → Type 0
ArePlain [] text = text ≡ []
ArePlain (e ∷ es) text =
    (this : List ℕ) × (rest : List ℕ) × (text ≡ this ++ rest) × IsLineText false false e.0 e.1 this × ArePlain es rest

-- one line more
read_one : (m : ℕ) (doc : Document) (x : List ℕ) (e : Expression) (after : List ℕ) (es : List Expression) (defined : Option Document) → defined ≡ define doc e → 0 < m → (length (skip_blank x) == 0) ≡ false
    → line (skip_blank x) ≡ Some (e, after) → ((next : Document) → lines (m - 1) next after ≡ option_and_then (λ n. run n es) (Some next)) → lines m doc x ≡ option_and_then (λ n. run n es) defined
read_one m doc x e after es None same some other read more = lines_refused m doc x e after some other read (sym same)
read_one m doc x e after es (Some next) same some other read more = lines_more m doc next x e after some other read (sym same) ∙ more next

read_plain : (es : List Expression) (text x : List ℕ) (doc : Document) (m : ℕ) → ArePlain es text → AllPrinted es → skip_blank x ≡ skip_blank text → length x < m → lines m doc x ≡ run doc es
read_plain [] text x doc m h ok skip room = lines_end m doc x (omega arith) (rw (skip, h, skip_from-nil true false) refl)
read_plain (e ∷ es) text x doc m h ok skip room =
    let (this, rest, whole, line_text, more) = h in
    let (s, at_start, read, some, shorter, not_bom) = line_turn false false e.0 e.1 this rest line_text ok.0 in
    let same : skip_blank x ≡ s = skip ∙ rw whole at_start in
    let other : (length (skip_blank x) == 0) ≡ false = rw same (grind (arith, nat_tests)) in
    let within = skip_within x in
    read_one m doc x e (10 ∷ rest) es (define doc e) refl (omega arith) other (rw same read) (λ next. read_plain es rest (10 ∷ rest) next (m - 1) more ok.1 (skip_newline rest) (omega (arith, ap length same)))

-- the expressions of the policy
abbrev expressions : ℕ → List Expression
expressions words =
    (([], codes "format"), key_value (integer (pos 1)))
    ∷ (([], codes "entry"), key_value (string (codes "routine")))
    ∷ (([], codes "bound"), key_value (integer (pos words)))
    ∷ (([], codes "registers"), std_table)
    ∷ (([], codes "s0"), key_value (string (codes "buf")))
    ∷ (([], codes "s2"), key_value (string (codes "work")))
    ∷ (([], codes "input"), array_table)
    ∷ (([], codes "at"), key_value (string (codes "buf")))
    ∷ (([], codes "length"), key_value (integer (pos 64)))
    ∷ (([], codes "kind"), key_value (string (codes "secret"))) ∷ []

-- the text, line by line
abbrev pub bound_line : ℕ → List ℕ
bound_line words = codes "bound = " ++ (decimal words ++ 10 ∷ [])

abbrev pub from_length : List ℕ
from_length = codes "length = 64\n" ++ codes "kind = \"secret\"\n"

abbrev pub from_input : List ℕ
from_input = codes "[[input]]\n" ++ (codes "at = \"buf\"\n" ++ from_length)

abbrev pub from_registers : List ℕ
from_registers = codes "[registers]\n" ++ (codes "s0 = \"buf\"\n" ++ (codes "s2 = \"work\"\n" ++ from_input))

abbrev pub plain_text : ℕ → List ℕ
plain_text words = codes "format = 1\n" ++ (codes "entry = \"routine\"\n" ++ (bound_line words ++ from_registers))

one : codes "1" ≡ decimal 1
one = sym (decimal_digit 1 (lit< tt))

sixty_four : codes "64" ≡ decimal 64
sixty_four = sym (decimal_step 64 (lit≤ tt) (lit< tt) ∙ ap (λ ds. ds ++ 52 ∷ []) (decimal_digit 6 (lit< tt)))

are_plain : (words : ℕ) → words < 2 ^ 63 → ArePlain (expressions words) (plain_text words)
unfolding needs_escape quotes_after escaped encoding_of string_text key_text
are_plain words small = (
  codes "format = 1\n",
  codes "entry = \"routine\"\n" ++ (bound_line words ++ from_registers),
  refl,
  (codes "1", refl, (one, search arith)),
  (
    codes "entry = \"routine\"\n",
    bound_line words ++ from_registers,
    refl,
    (codes "\"routine\"", refl, refl),
    (
      bound_line words,
      from_registers,
      refl,
      (decimal words, refl, (refl, search arith)),
      (
        codes "[registers]\n",
        codes "s0 = \"buf\"\n" ++ (codes "s2 = \"work\"\n" ++ from_input),
        refl,
        refl,
        (
          codes "s0 = \"buf\"\n",
          codes "s2 = \"work\"\n" ++ from_input,
          refl,
          (codes "\"buf\"", refl, refl),
          (
            codes "s2 = \"work\"\n",
            from_input,
            refl,
            (codes "\"work\"", refl, refl),
            (
              codes "[[input]]\n",
              codes "at = \"buf\"\n" ++ from_length,
              refl,
              refl,
              (
                codes "at = \"buf\"\n",
                from_length,
                refl,
                (codes "\"buf\"", refl, refl),
                (
                  codes "length = 64\n",
                  codes "kind = \"secret\"\n",
                  refl,
                  (codes "64", refl, (sixty_four, search arith)),
                  (codes "kind = \"secret\"\n", [], refl, (codes "\"secret\"", refl, refl), refl),
                ),
              ),
            ),
          ),
        ),
      ),
    ),
  ),
)

are_printed : (words : ℕ) → AllPrinted (expressions words)
are_printed words = ((refl, omega arith, refl), ((refl, omega arith, refl), ((refl, omega arith, refl), (omega arith, ((refl, omega arith, refl), ((refl, omega arith, refl), (omega arith, ((refl, omega arith, refl), ((refl, omega arith, refl), ((refl, omega arith, refl), tt))))))))))

-- what the lines define
abbrev nodes : ℕ → Nodes
nodes words =
    node (codes "bound") (value (integer (pos words)))
    (node (codes "entry") (value (string (codes "routine")))
    (node (codes "format") (value (integer (pos 1)))
    (node (codes "input") (open_array no_items
    (node (codes "at") (value (string (codes "buf")))
    (node (codes "kind") (value (string (codes "secret")))
    (node (codes "length") (value (integer (pos 64))) no_nodes))))
    (node (codes "registers") (open_table header
    (node (codes "s0") (value (string (codes "buf"))) (node (codes "s2") (value (string (codes "work"))) no_nodes))) no_nodes))))

abbrev pub made_members : ℕ → Members
made_members words =
    member (codes "bound") (integer (pos words))
    (member (codes "entry") (string (codes "routine"))
    (member (codes "format") (integer (pos 1))
    (member (codes "input") (array (item (table
    (member (codes "at") (string (codes "buf"))
    (member (codes "kind") (string (codes "secret"))
    (member (codes "length") (integer (pos 64)) no_members)))) no_items))
    (member (codes "registers") (table (member (codes "s0") (string (codes "buf")) (member (codes "s2") (string (codes "work")) no_members))) no_members))))

ran : (words : ℕ) → run (no_nodes, []) (expressions words) ≡ Some (nodes words, codes "input" ∷ [])
unfolding along_dots along_header at_key define
ran words = refl

no_mark : (words : ℕ) → skip_bom (plain_text words) ≡ plain_text words
unfolding skip_bom
no_mark words = refl

pub document_made : (words : ℕ) → words < 2 ^ 63 → parse_document (plain_text words) ≡ Some (made_members words)
document_made words small =
    document_some (plain_text words) (nodes words, codes "input" ∷ [])
    (rw (no_mark words) (read_plain (expressions words) (plain_text words) (plain_text words) (no_nodes, []) (suc (length (plain_text words)))
    (are_plain words small) (are_printed words) refl (omega arith) ∙ ran words))
