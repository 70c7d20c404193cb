-- How many values a list has that is read from so many bytes.
use Rattle.std.proofs.Common.{◌≡◌, ℕ, zero, suc, ◌+◌, ◌*◌, ◌≤◌, Bool, true, false, List, [], ◌∷◌, length, take, drop, Option, Some, None, option_and_then, refl, sym, ap, ◌∙◌, subst, ⊎_elim, arith}
use Rattle.std.proofs.lemmas.Bool.{cases_Bool}
use Rattle.std.proofs.lemmas.List.{length-append, take-append-drop}
use Rattle.std.proofs.lemmas.Option.{same_Some}
use Rattle.std.specs.List.{flat_map}
use Rattle.std.specs.Option.{ForSome, option_map}
use Rattle.std.specs.Prelude.{⊤}
use Rattle.json.specs.Json as json
use Rattle.json.specs.Json.{Json, Parse, parse_map, after_end_array, items_step, items, value_with, value, if_last}
use Rattle.json.specs.Lex.{Lexeme, comma, colon, Class, quote, backslash, operator, space, other, class, Mode, between, in_word, in_string, in_escape, lex_byte, lex, Place, fresh, after_value, after_comma, after_key, begins_colon, if_allowed, may_begin, may_close, place_token, punctuate, tokens}
use Rattle.json.specs.Lex as lexeme
use Rattle.json.specs.Token.{Token}
use Rattle.serde_json.specs.Data as values
use Rattle.serde_json.specs.Data.{Data}
use Rattle.serde_json.specs.Events.{items_len}
use Rattle.serde_json.specs.Find.{as_array}
use Rattle.serde_json.specs.Read.{of_json, of_items, read}
use Rattle.act_json.specs.Quoting.{starts_number, piece_len, pieces, quoted_piece, quoted}

-- ---- quoting adds two bytes at most to each byte

piece_grows : (piece : List ℕ) → length (quoted_piece piece) ≤ 3 * length piece
piece_grows [] = omega arith
piece_grows (b ∷ rest) =
    ⊎_elim (λ (yes : starts_number b ≡ true). rw yes (omega (arith, length-append rest (34 ∷ [])))) (λ (no : starts_number b ≡ false). rw no (omega arith)) (cases_Bool (starts_number b))

pieces_grow : (n : ℕ) (text : List ℕ) → length (flat_map quoted_piece (pieces n text)) ≤ 3 * length text
unfolding pieces
pieces_grow zero text = omega arith
pieces_grow (suc n) [] = omega arith
pieces_grow (suc n) (b ∷ rest) =
    let k = piece_len (b ∷ rest) in
    let first = piece_grows (take k (b ∷ rest)) in
    let others = pieces_grow n (drop k (b ∷ rest)) in
    let same : length (b ∷ rest) ≡ length (take k (b ∷ rest)) + length (drop k (b ∷ rest)) = sym (ap length (take-append-drop k (b ∷ rest))) ∙ length-append (take k (b ∷ rest)) (drop k (b ∷ rest)) in
    omega (arith, length-append (quoted_piece (take k (b ∷ rest))) (flat_map quoted_piece (pieces n (drop k (b ∷ rest)))))

pub quoted_grows : (text : List ℕ) → length (quoted text) ≤ 3 * length text
unfolding quoted
quoted_grows text = pieces_grow (length text) text

-- ---- a byte begins one lexeme at most

byte_begins_one : (m : Mode) (c : Class) (x : ℕ) (xs : List ℕ) (n : ℕ) (k : Mode → List Lexeme) → ((next : Mode) → length (k next) ≤ n) → length (lex_byte m c x xs k) ≤ suc n
byte_begins_one between quote x xs n k few = omega (arith, few in_string)
byte_begins_one between backslash x xs n k few = omega (arith, few in_word)
byte_begins_one between operator x xs n k few = omega (arith, few between)
byte_begins_one between space x xs n k few = omega (arith, few between)
byte_begins_one between other x xs n k few = omega (arith, few in_word)
byte_begins_one in_word quote x xs n k few = omega (arith, few in_word)
byte_begins_one in_word backslash x xs n k few = omega (arith, few in_word)
byte_begins_one in_word operator x xs n k few = omega (arith, few between)
byte_begins_one in_word space x xs n k few = omega (arith, few between)
byte_begins_one in_word other x xs n k few = omega (arith, few in_word)
byte_begins_one in_string quote x xs n k few = omega (arith, few between)
byte_begins_one in_string backslash x xs n k few = omega (arith, few in_escape)
byte_begins_one in_string operator x xs n k few = omega (arith, few in_string)
byte_begins_one in_string space x xs n k few = omega (arith, few in_string)
byte_begins_one in_string other x xs n k few = omega (arith, few in_string)
byte_begins_one in_escape c x xs n k few = omega (arith, few in_string)

lexemes : (text : List ℕ) (m : Mode) → length (lex m text) ≤ length text
unfolding lex
lexemes [] m = omega arith
lexemes (x ∷ xs) m = byte_begins_one m (class x) x xs (length xs) (λ next. lex next xs) (lexemes xs)

-- ---- a lexeme is one token at most, and one more may stand at the end

allowed : (may : Bool) (t : Token) (k : Place → List Token) (next : Place) (n : ℕ) → length (k next) ≤ suc n → length (if_allowed may t k next) ≤ suc (suc n)
allowed true t k next n few = omega arith
allowed false t k next n few = omega arith

token_is_one : (p : Place) (t : Token) (before_colon : Bool) (k : Place → List Token) (n : ℕ) → ((next : Place) → length (k next) ≤ suc n) → length (place_token p t before_colon k) ≤ suc (suc n)
token_is_one p Token.begin_object c k n few = allowed (may_begin p) Token.begin_object k fresh n (few fresh)
token_is_one p Token.end_object c k n few = allowed (may_close p) Token.end_object k after_value n (few after_value)
token_is_one p Token.begin_array c k n few = allowed (may_begin p) Token.begin_array k fresh n (few fresh)
token_is_one p Token.end_array c k n few = allowed (may_close p) Token.end_array k after_value n (few after_value)
token_is_one p (Token.key s) c k n few = omega arith
token_is_one p (Token.string s) true k n few = allowed (may_begin p) (Token.key s) k after_key n (few after_key)
token_is_one p (Token.string s) false k n few = allowed (may_begin p) (Token.string s) k after_value n (few after_value)
token_is_one p (Token.number s) c k n few = allowed (may_begin p) (Token.number s) k after_value n (few after_value)
token_is_one p (Token.boolean b) c k n few = allowed (may_begin p) (Token.boolean b) k after_value n (few after_value)
token_is_one p Token.null c k n few = allowed (may_begin p) Token.null k after_value n (few after_value)
token_is_one p Token.bad c k n few = omega arith

lexeme_is_one : (ls : List Lexeme) (p : Place) → length (punctuate p ls) ≤ suc (length ls)
unfolding punctuate
lexeme_is_one [] fresh = omega arith
lexeme_is_one [] after_value = omega arith
lexeme_is_one [] after_comma = omega arith
lexeme_is_one [] after_key = omega arith
lexeme_is_one (lexeme.token t ∷ ls) fresh = token_is_one fresh t (begins_colon ls) (λ next. punctuate next ls) (length ls) (lexeme_is_one ls)
lexeme_is_one (lexeme.token t ∷ ls) after_value = token_is_one after_value t (begins_colon ls) (λ next. punctuate next ls) (length ls) (lexeme_is_one ls)
lexeme_is_one (lexeme.token t ∷ ls) after_comma = token_is_one after_comma t (begins_colon ls) (λ next. punctuate next ls) (length ls) (lexeme_is_one ls)
lexeme_is_one (lexeme.token t ∷ ls) after_key = token_is_one after_key t (begins_colon ls) (λ next. punctuate next ls) (length ls) (lexeme_is_one ls)
lexeme_is_one (comma ∷ ls) fresh = omega arith
lexeme_is_one (comma ∷ ls) after_value = omega (arith, lexeme_is_one ls after_comma)
lexeme_is_one (comma ∷ ls) after_comma = omega arith
lexeme_is_one (comma ∷ ls) after_key = omega arith
lexeme_is_one (colon ∷ ls) fresh = omega arith
lexeme_is_one (colon ∷ ls) after_value = omega arith
lexeme_is_one (colon ∷ ls) after_comma = omega arith
lexeme_is_one (colon ∷ ls) after_key = omega (arith, lexeme_is_one ls fresh)

few_tokens : (text : List ℕ) → length (tokens text) ≤ suc (length text)
few_tokens text = omega (arith, lexeme_is_one (lex between text) fresh, lexemes text between)

-- ---- a list has no more values than tokens

abbrev count : json.Items → ℕ
count json.no_items = 0
count (json.item j js) = suc (count js)

-- how long the list is that a value is
abbrev list_len : Json → ℕ
list_len json.null = 0
list_len (json.boolean b) = 0
list_len (json.number s) = 0
list_len (json.string s) = 0
list_len (json.array js) = count js
list_len (json.object ms) = 0

abbrev AtMost : {A : Type 0} → (A → ℕ) → ℕ → Option (A × List Token) → Type 0
AtMost f n None = ⊤
AtMost f n (Some p) = f p.0 ≤ n

counted_more : (n : ℕ) (j : Json) (o : Option (json.Items × List Token)) → AtMost count n o → AtMost count (suc n) (parse_map (json.item j) o)
counted_more n j None few = tt
counted_more n j (Some p) few = omega arith

module _ (p : Parse Json) where
  counted_behind : (n : ℕ) (more : Parse json.Items) → ((ts : List Token) → AtMost count n (more ts)) → (o : Option (Json × List Token)) → AtMost count (suc n) (option_and_then (λ q. parse_map (json.item q.0) (more q.1)) o)
  counted_behind n more few None = tt
  counted_behind n more few (Some q) = counted_more n q.0 (more q.1) (few q.1)

  counted_turn : (n : ℕ) (more : Parse json.Items) → ((ts : List Token) → AtMost count n (more ts)) → (ts : List Token) (end : Option (List Token)) → AtMost count (suc n) (items_step p more ts end)
  counted_turn n more few ts None = counted_behind n more few (p ts)
  counted_turn n more few ts (Some rest) = omega arith

  counted : (n : ℕ) (ts : List Token) → AtMost count n (items p n ts)
  unfolding items
  counted zero ts = tt
  counted (suc n) ts = counted_turn n (items p n) (counted n) ts (after_end_array ts)

listed : (n : ℕ) (o : Option (json.Items × List Token)) → AtMost count n o → AtMost list_len (suc n) (parse_map json.array o)
listed n None few = tt
listed n (Some p) few = omega arith

no_list : (n : ℕ) (o : Option (json.Members × List Token)) → AtMost list_len n (parse_map json.object o)
no_list n None = tt
no_list n (Some p) = omega arith

value_listed : (a : Parse json.Items) (o : Parse json.Members) → ((ts : List Token) → AtMost count (length ts) (a ts)) → (ts : List Token) → AtMost list_len (length ts) (value_with a o ts)
value_listed a o few [] = tt
value_listed a o few (Token.begin_object ∷ ts) = no_list (suc (length ts)) (o ts)
value_listed a o few (Token.end_object ∷ ts) = tt
value_listed a o few (Token.begin_array ∷ ts) = listed (length ts) (a ts) (few ts)
value_listed a o few (Token.end_array ∷ ts) = tt
value_listed a o few (Token.key s ∷ ts) = tt
value_listed a o few (Token.string s ∷ ts) = omega arith
value_listed a o few (Token.number s ∷ ts) = omega arith
value_listed a o few (Token.boolean b ∷ ts) = omega arith
value_listed a o few (Token.null ∷ ts) = omega arith
value_listed a o few (Token.bad ∷ ts) = tt

few_values : (depth : ℕ) (ts : List Token) → AtMost list_len (length ts) (value depth ts)
unfolding value
few_values zero ts = value_listed (λ ts. None) (λ ts. None) (λ ts. tt) ts
few_values (suc d) ts = value_listed (λ ts. items (value d) (length ts) ts) (λ ts. json.members (value d) (length ts) ts) (λ ts. counted (value d) (length ts) ts) ts

-- ---- the same of what serde_json reads

abbrev data_len : Data → ℕ
data_len values.null = 0
data_len (values.boolean b) = 0
data_len (values.number n) = 0
data_len (values.string s) = 0
data_len (values.array ds) = items_len ds
data_len (values.object ms) = 0

abbrev UpTo : {A : Type 0} → (A → ℕ) → ℕ → Option A → Type 0
UpTo f n None = ⊤
UpTo f n (Some a) = f a ≤ n

one_more : (n : ℕ) (d : Data) (o : Option values.Items) → UpTo items_len n o → UpTo items_len (suc n) (option_map (values.item d) o)
one_more n d None few = tt
one_more n d (Some ds) few = omega arith

with_first : (n : ℕ) (first : Option Data) (o : Option values.Items) → UpTo items_len n o → UpTo items_len (suc n) (option_and_then (λ d. option_map (values.item d) o) first)
with_first n None o few = tt
with_first n (Some d) o few = one_more n d o few

kept : (js : json.Items) → UpTo items_len (count js) (of_items js)
kept json.no_items = omega arith
kept (json.item j js) = with_first (count js) (of_json j) (of_items js) (kept js)

as_list : (n : ℕ) (o : Option values.Items) → UpTo items_len n o → UpTo data_len n (option_map values.array o)
as_list n None few = tt
as_list n (Some ds) few = few

none_listed : {A : Type 0} (n : ℕ) (f : A → Data) → ((a : A) → data_len (f a) ≡ 0) → (o : Option A) → UpTo data_len n (option_map f o)
none_listed n f none None = tt
none_listed n f none (Some a) = omega (arith, none a)

data_kept : (j : Json) → UpTo data_len (list_len j) (of_json j)
data_kept json.null = omega arith
data_kept (json.boolean b) = omega arith
data_kept (json.number s) = none_listed 0 values.number (λ n. refl) _
data_kept (json.string s) = omega arith
data_kept (json.array js) = as_list (count js) (of_items js) (kept js)
data_kept (json.object ms) = none_listed 0 values.object (λ ms. refl) _

up_to_more : {A : Type 0} (f : A → ℕ) (n m : ℕ) (o : Option A) → n ≤ m → UpTo f n o → UpTo f m o
up_to_more f n m None le few = tt
up_to_more f n m (Some a) le few = omega arith

whole : (n : ℕ) (j : Json) (ts : List Token) → list_len j ≤ n → UpTo data_len n (option_and_then of_json (if_last j ts))
whole n j [] few = up_to_more data_len (list_len j) n (of_json j) few (data_kept j)
whole n j (t ∷ ts) few = tt

whole_read : (n : ℕ) (o : Option (Json × List Token)) → AtMost list_len n o → UpTo data_len n (option_and_then of_json (option_and_then (λ p. if_last p.0 p.1) o))
whole_read n None few = tt
whole_read n (Some p) few = whole n p.0 p.1 few

few_read : (text : List ℕ) → UpTo data_len (length (tokens text)) (read text)
few_read text = whole_read (length (tokens text)) _ (few_values _ (tokens text))

by_list : (n : ℕ) (d : Data) → data_len d ≤ n → ForSome (as_array d) (λ items. items_len items ≤ n)
by_list n values.null few = λ items none. absurd (cc)
by_list n (values.boolean b) few = λ items none. absurd (cc)
by_list n (values.number x) few = λ items none. absurd (cc)
by_list n (values.string s) few = λ items none. absurd (cc)
by_list n (values.array ds) few = λ items is. subst (λ items. items_len items ≤ n) (same_Some ds items is) few
by_list n (values.object ms) few = λ items none. absurd (cc)

-- a list that is read from bytes between quotation marks has at most three values for each byte, and one
pub few_items : (bytes text : List ℕ) (d : Data) → text ≡ quoted bytes → read text ≡ Some d → ForSome (as_array d) (λ items. items_len items ≤ 3 * length bytes + 1)
few_items bytes text d same is =
    let known = subst (UpTo data_len (length (tokens text))) is (few_read text) in
    let longer : length text ≤ 3 * length bytes = rw same (quoted_grows bytes) in
    by_list (3 * length bytes + 1) d (omega (arith, few_tokens text))
