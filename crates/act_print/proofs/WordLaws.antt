-- Words: what is read is what is written, and what is written is read again.
use Rattle.std.proofs.Common.{◌≡◌, ℕ, zero, suc, ◌+◌, ◌-◌, ◌/◌, ◌%◌, ◌^◌, ◌<◌, ◌≤◌, ◌&&◌, nat_lt, nat_le, Bool, true, false, not, cond, ℤ, pos, int_lt, unsigned_abs, List, [], ◌∷◌, ◌++◌, get_or, Option, Some, None, Result, Ok, Err, decimal, refl, sym, ◌∙◌, ap, subst, arith}
use Rattle.std.specs.List.{find, list_all}
use Rattle.std.specs.Option.{option_and_then}
use Rattle.std.specs.Result.{result_ok}
use Rattle.std.specs.Str.{bytes_eq}
use Rattle.std.specs.Prelude.{codes, ⊤}
use Rattle.std.specs.Str.Parse.{AllDigits, digits_value}
use Rattle.std.proofs.lemmas.Bool.{and_parts, and_from, lt-ltb, ltb-true, le-leb, leb-true}
use Rattle.std.proofs.lemmas.Fmt.{decimal_is_IsNumeral, decimal_is_IsNumeral_wide}
use Rattle.std.proofs.lemmas.Int.{ints}
use Rattle.std.proofs.lemmas.List.Folds.{list_all-append}
use Rattle.std.proofs.lemmas.List.Quantifiers.{position-Some}
use Rattle.std.proofs.lemmas.Option.{unwrap_or-slice_get}
use Rattle.std.proofs.lemmas.Str.Parse.{digit_from_value}
use Rattle.std.proofs.lemmas.Slice.Eq.{bytes_eq-Decides}
use Rattle.act_num.specs.Decimal.{DecimalParts, decimal_of, decimal_parts, fraction_text, magnitude_of, number_or_fault, printed, sign_text, with_sign}
use Rattle.act_num.specs.Digits.{padded_digits}
use Rattle.act_num.specs.declared.decimal.DecimalFault.TheVariants.{TooLarge}
use Rattle.act_num.specs.Number.{InRange, largest, one}
use Rattle.act_num.proofs.ReadBack.{decimal_of-printed}
use Rattle.act_date.specs.Civil.{Civil, IsCivil, IsDay, civil_of, day_number, days_of_years, year_length}
use Rattle.act_date.specs.Text.{date_text, day_of, has_date, has_time_form, is_civil, is_midnight, written_date}
use Rattle.act_date.specs.declared.day.DateFault.TheVariants.{NotDate, TimeOfDay, DateRange}
use Rattle.act_date.proofs.CivilLemmas.{place_in_year}
use Rattle.act_date.proofs.WrittenDays.{read_back}
use Rattle.act_model.specs.Name.{has_form, is_graphic, is_name}
use Rattle.act_model.specs.Names.{place_of}
use Rattle.act_print.specs.Conditions.{IsNumberOf}
use Rattle.act_model.specs.declared.event.EventType.{EventType}
use Rattle.act_model.specs.declared.event.EventType.TheVariants.{IED, PR, PP, PY, FP, PRD, TD, IP, IPCI, RRF, RR, PRF, IPCB, SC, DV, MD, CE, XD, STD}
use Rattle.act_text.specs.Lines.{name_of, type_text}
use Rattle.act_print.specs.Words.{event_types, caller_word, count_word, day_word, name_word, number_word, type_word, written}

-- ---- tests and steps

pub same_bytes : (xs ys : List ℕ) → bytes_eq xs ys ≡ true → xs ≡ ys
same_bytes xs ys = (bytes_eq-Decides xs ys).0

pub bytes_same : (xs ys : List ℕ) → xs ≡ ys → bytes_eq xs ys ≡ true
bytes_same xs ys = (bytes_eq-Decides xs ys).1

-- a test that passed
pub if_some : {A : Type 0} (b : Bool) (o : Option A) (x : A) → cond b o None ≡ Some x → (b ≡ true) × (o ≡ Some x)
if_some true o x e = (refl, e)
if_some false o x e = absurd (cc)

-- a step that gave something
pub bind_some : {A B : Type 0} (o : Option A) (f : A → Option B) (y : B) → option_and_then f o ≡ Some y → (x : A) × (o ≡ Some x) × (f x ≡ Some y)
bind_some (Some x) f y e = (x, refl, e)
bind_some None f y e = absurd (cc)

pub some_is : {A : Type 0} (x y : A) → Some x ≡ Some y → x ≡ y
some_is x y e = cc

-- ---- reading a word

-- what is read is what is written, what is written is read again, and its bytes are printable and no spaces
pub record ReadsWord {A : Type 0} (read : List ℕ → Option A) (text : A → List ℕ) (Fits : A → Type 0) : Type 0 where
  pub takes : (word : List ℕ) (x : A) → read word ≡ Some x → (word ≡ text x) × Fits x
  pub again : (x : A) → Fits x → read (text x) ≡ Some x
  pub graphic : (x : A) → Fits x → list_all is_graphic (text x) ≡ true

written_takes : {A : Type 0} (text : A → List ℕ) (word : List ℕ) (value x : A) → written text word value ≡ Some x → (word ≡ text x) × (value ≡ x)
written_takes text word value x e =
    let both = if_some (bytes_eq (text value) word) (Some value) x e in
    let same = some_is value x both.1 in
    (sym (same_bytes (text value) word both.0) ∙ ap text same, same)

pub written_again : {A : Type 0} (text : A → List ℕ) (value : A) → written text (text value) value ≡ Some value
written_again text value = rw (bytes_same (text value) (text value) refl) refl

ok_some : {A E : Type 0} (r : Result A E) (x : A) → result_ok r ≡ Some x → r ≡ Ok x
ok_some (Ok y) x e = let same = some_is y x e in rw same refl
ok_some (Err e') x e = absurd (cc)

-- ---- counts

pub count_takes : (word : List ℕ) (n : ℕ) → count_word word ≡ Some n → (word ≡ decimal n) × (n < 2 ^ 64)
unfolding count_word
count_takes word n e =
    let value = digits_value 10 word in
    let both = if_some (nat_lt value (2 ^ 64)) (written decimal word value) n e in
    let is = written_takes decimal word value n both.1 in
    (is.0, subst (λ (k : ℕ). k < 2 ^ 64) is.1 (ltb-true value (2 ^ 64) both.0))

pub count_again : (n : ℕ) → n < 2 ^ 64 → count_word (decimal n) ≡ Some n
unfolding count_word
count_again n h =
    let value = (decimal_is_IsNumeral n h).1 in
    rw (value, lt-ltb n (2 ^ 64) h) (written_again decimal n)

graphic_byte : (c : ℕ) → 33 ≤ c → c ≤ 126 → is_graphic c ≡ true
graphic_byte c low high = and_from _ _ (le-leb 33 c low) (le-leb c 126 high)

-- printable bytes and no spaces behind others
pub graphic_both : (xs ys : List ℕ) → list_all is_graphic xs ≡ true → list_all is_graphic ys ≡ true → list_all is_graphic (xs ++ ys) ≡ true
graphic_both xs ys h k = list_all-append is_graphic xs ys ∙ and_from _ _ h k

graphic_digits : (ds : List ℕ) → AllDigits 10 ds → list_all is_graphic ds ≡ true
graphic_digits [] all = refl
graphic_digits (d ∷ ds) all =
    let range = digit_from_value d all.0 in
    and_from _ _ (graphic_byte d (omega (arith, range.0)) (omega (arith, range.1))) (graphic_digits ds all.1)

graphic_padded : (k n : ℕ) → list_all is_graphic (padded_digits k n) ≡ true
graphic_padded zero n = refl
graphic_padded (suc k) n =
    graphic_both (padded_digits k (n / 10)) _ (graphic_padded k (n / 10)) (and_from _ _ (graphic_byte (48 + n % 10) (omega arith) (omega arith)) refl)

pub graphic_count : (n : ℕ) → n < 2 ^ 64 → list_all is_graphic (decimal n) ≡ true
graphic_count n h = graphic_digits (decimal n) (decimal_is_IsNumeral n h).0.1

pub graphic_wide : (n : ℕ) → n < 10 ^ 64 → list_all is_graphic (decimal n) ≡ true
graphic_wide n h = graphic_digits (decimal n) (decimal_is_IsNumeral_wide n h).0.1

abbrev pub IsCount : ℕ → Type 0
IsCount n = n < 2 ^ 64

-- a name is made of such bytes
pub name_is_graphic : (word : List ℕ) → is_name word ≡ true → list_all is_graphic word ≡ true
unfolding has_form
name_is_graphic word e = (and_parts _ _ e).1

pub count_reads : ReadsWord count_word decimal IsCount
count_reads = record { takes = count_takes; again = count_again; graphic = graphic_count }

-- ---- callers

abbrev pub IsCaller : ℕ → Type 0
IsCaller n = (1 ≤ n) × (n ≤ 16)

caller_takes : (word : List ℕ) (n : ℕ) → caller_word word ≡ Some n → (word ≡ decimal n) × IsCaller n
unfolding caller_word
caller_takes word n e =
    let read = bind_some (count_word word) (λ caller. cond (nat_le 1 caller && nat_le caller 16) (Some caller) None) n e in
    let both = if_some (nat_le 1 read.0 && nat_le read.0 16) (Some read.0) n read.2 in
    let same = some_is read.0 n both.1 in
    let bounds = and_parts _ _ both.0 in
    ((count_takes word read.0 read.1).0 ∙ ap decimal same, subst IsCaller same (leb-true _ _ bounds.0, leb-true _ _ bounds.1))

caller_again : (n : ℕ) → IsCaller n → caller_word (decimal n) ≡ Some n
unfolding caller_word
caller_again n h = rw (count_again n (omega (arith, h.1)), le-leb 1 n h.0, le-leb n 16 h.1) refl

pub caller_reads : ReadsWord caller_word decimal IsCaller
caller_reads = record { takes = caller_takes; again = caller_again; graphic = λ n h. graphic_count n (omega (arith, h.1)) }

-- ---- numbers

magnitude_is : (negative : Bool) (n : ℕ) → unsigned_abs (with_sign negative n) ≡ n
magnitude_is true n = omega (arith, ints)
magnitude_is false n = refl

parts_in_range : (parts : Option DecimalParts) (z : ℤ) → number_or_fault parts ≡ Ok z → InRange z
parts_in_range None z e = absurd (cc)
parts_in_range (Some parts) z e = by (nat_le (magnitude_of parts) largest) refl e where
  by : (b : Bool) → nat_le (magnitude_of parts) largest ≡ b → cond b (Ok (with_sign parts.negative (magnitude_of parts))) (Err TooLarge) ≡ Ok z → InRange z
  by true small e =
      let same : with_sign parts.negative (magnitude_of parts) ≡ z = cc in
      subst InRange same (rw (magnitude_is parts.negative (magnitude_of parts)) (leb-true _ _ small))
  by false small e = absurd (cc)

number_takes : (word : List ℕ) (z : ℤ) → number_word word ≡ Some z → (word ≡ printed z) × InRange z
unfolding number_word
number_takes word z e =
    let read = bind_some (result_ok (decimal_of word)) (written printed word) z e in
    let is = written_takes printed word read.0 z read.2 in
    (is.0, parts_in_range (decimal_parts word) z (ok_some (decimal_of word) z (read.1 ∙ ap Some is.1)))

number_again : (z : ℤ) → InRange z → number_word (printed z) ≡ Some z
unfolding number_word
number_again z h = rw (decimal_of-printed z h) (written_again printed z)

graphic_sign : (b : Bool) → list_all is_graphic (cond b (codes "-") []) ≡ true
graphic_sign true = refl
graphic_sign false = refl

graphic_number : (z : ℤ) → InRange z → list_all is_graphic (printed z) ≡ true
unfolding printed fraction_text
graphic_number z h =
    let whole = decimal_is_IsNumeral_wide (unsigned_abs z / one) (omega arith) in
    graphic_both (sign_text z ++ decimal (unsigned_abs z / one) ++ codes ".") _
    (graphic_both (sign_text z ++ decimal (unsigned_abs z / one)) (codes ".")
    (graphic_both (sign_text z) _ (graphic_sign (int_lt z (pos 0))) (graphic_digits _ whole.0.1)) refl)
    (graphic_padded 9 (unsigned_abs z % one))

pub number_reads : ReadsWord number_word printed InRange
number_reads = record { takes = number_takes; again = number_again; graphic = graphic_number }

-- ---- days

years_up : (n k m : ℕ) → m ≡ n + k → days_of_years n ≤ days_of_years m
unfolding days_of_years
years_up n zero m e = let same : m ≡ n = omega arith in rw same (omega arith)
years_up n (suc k) m e =
    let same : m ≡ suc (n + k) = omega arith in
    let before = years_up n k (n + k) refl in
    rw same (omega (arith, before))

years_next : (n : ℕ) → days_of_years (suc n) ≡ days_of_years n + year_length (1900 + n)
unfolding days_of_years
years_next n = refl

all_years : days_of_years 400 ≡ 146097
unfolding days_of_years
all_years = refl

civil_is : (date : Civil) → is_civil date ≡ true → IsCivil date
civil_is date e =
    let a = and_parts _ _ e in
    let b = and_parts _ _ a.0 in
    let c = and_parts _ _ b.0 in
    record { month_from = leb-true _ _ c.0; month_to = leb-true _ _ c.1; day_from = leb-true _ _ b.1; day_to = leb-true _ _ a.1 }

number_in_days : (date : Civil) → IsCivil date → 1900 ≤ date.year → date.year ≤ 2299 → IsDay (day_number date)
unfolding day_number
number_in_days date is from to =
    let n = date.year - 1900 in
    let year : 1900 + n ≡ date.year = omega arith in
    let place = place_in_year date is (omega arith) in
    let next = years_up (suc n) (399 - n) 400 (omega arith) in
    let more = years_next n in
    let length : year_length (1900 + n) ≡ year_length date.year = ap year_length year in
    (omega (arith, ints), omega (arith, ints, place, next, more, length, all_years))

-- a day that is read
day_is : (text : List ℕ) (day : ℤ) → day_of text ≡ Ok day → IsDay day
unfolding day_of
day_is text day e = by (has_time_form text && has_date text) (is_midnight text) (nat_le 1900 (written_date text).year && nat_le (written_date text).year 2299) refl refl e where
  date : Civil
  date = written_date text

  by : (form midnight years : Bool) → (has_time_form text && has_date text) ≡ form → (nat_le 1900 date.year && nat_le date.year 2299) ≡ years
      → cond (not form) (Err NotDate) (cond (not midnight) (Err TimeOfDay) (cond years (Ok (day_number date)) (Err DateRange))) ≡ Ok day → IsDay day
  by true true true form years e =
      let same : day_number date ≡ day = cc in
      let between = and_parts _ _ years in
      subst IsDay same (number_in_days date (civil_is date (and_parts _ _ (and_parts _ _ form).1).1) (leb-true _ _ between.0) (leb-true _ _ between.1))
  by true true false form years e = absurd (cc)
  by true false years form years' e = absurd (cc)
  by false midnight years form years' e = absurd (cc)

day_takes : (word : List ℕ) (day : ℤ) → day_word word ≡ Some day → (word ≡ date_text day) × IsDay day
unfolding day_word
day_takes word day e =
    let read = bind_some (result_ok (day_of word)) (written date_text word) day e in
    let is = written_takes date_text word read.0 day read.2 in
    (is.0, day_is word day (ok_some (day_of word) day (read.1 ∙ ap Some is.1)))

day_again : (day : ℤ) → IsDay day → day_word (date_text day) ≡ Some day
unfolding day_word
day_again day h =
    let back : result_ok (day_of (date_text day)) ≡ Some day = ap result_ok (read_back (date_text day) day h refl) in
    ap (λ (o : Option ℤ). option_and_then (written date_text (date_text day)) o) back ∙ written_again date_text day

graphic_day : (day : ℤ) → IsDay day → list_all is_graphic (date_text day) ≡ true
graphic_day day h = by (civil_of day) where
  by : (date : Civil) → list_all is_graphic (padded_digits 4 date.year ++ codes "-" ++ padded_digits 2 date.month ++ codes "-" ++ padded_digits 2 date.day) ≡ true
  by date =
      graphic_both (padded_digits 4 date.year ++ codes "-" ++ padded_digits 2 date.month ++ codes "-") (padded_digits 2 date.day)
      (graphic_both (padded_digits 4 date.year ++ codes "-" ++ padded_digits 2 date.month) (codes "-")
      (graphic_both (padded_digits 4 date.year ++ codes "-") (padded_digits 2 date.month)
      (graphic_both (padded_digits 4 date.year) (codes "-") (graphic_padded 4 date.year) refl) (graphic_padded 2 date.month)) refl)
      (graphic_padded 2 date.day)

pub day_reads : ReadsWord day_word date_text IsDay
day_reads = record { takes = day_takes; again = day_again; graphic = graphic_day }

-- ---- types of events

module _ (word : List ℕ) where
  by_type : (k kind : EventType) (others : Option EventType) (b : Bool) → bytes_eq (type_text k) word ≡ b → (others ≡ Some kind → bytes_eq (type_text kind) word ≡ true) → cond b (Some k) others ≡ Some kind → bytes_eq (type_text kind) word ≡ true
  by_type k kind others true is later e = let same = some_is k kind e in subst (λ (x : EventType). bytes_eq (type_text x) word ≡ true) same is
  by_type k kind others false is later e = later e

  found_type : (kind : EventType) (kinds : List EventType) → find (λ k. bytes_eq (type_text k) word) kinds ≡ Some kind → bytes_eq (type_text kind) word ≡ true
  found_type kind [] e = absurd (cc)
  found_type kind (k ∷ kinds) e = by_type k kind (find (λ k. bytes_eq (type_text k) word) kinds) (bytes_eq (type_text k) word) refl (found_type kind kinds) e

  type_takes : (kind : EventType) → type_word word ≡ Some kind → (word ≡ type_text kind) × ⊤
  unfolding type_word
  type_takes kind e = (sym (same_bytes (type_text kind) word (found_type kind event_types e)), tt)

type_again : (kind : EventType) → type_word (type_text kind) ≡ Some kind
unfolding type_word
type_again IED = refl
type_again PR = refl
type_again PP = refl
type_again PY = refl
type_again FP = refl
type_again PRD = refl
type_again TD = refl
type_again IP = refl
type_again IPCI = refl
type_again RRF = refl
type_again RR = refl
type_again PRF = refl
type_again IPCB = refl
type_again SC = refl
type_again DV = refl
type_again MD = refl
type_again CE = refl
type_again XD = refl
type_again STD = refl

graphic_type : (kind : EventType) → list_all is_graphic (type_text kind) ≡ true
graphic_type IED = refl
graphic_type PR = refl
graphic_type PP = refl
graphic_type PY = refl
graphic_type FP = refl
graphic_type PRD = refl
graphic_type TD = refl
graphic_type IP = refl
graphic_type IPCI = refl
graphic_type RRF = refl
graphic_type RR = refl
graphic_type PRF = refl
graphic_type IPCB = refl
graphic_type SC = refl
graphic_type DV = refl
graphic_type MD = refl
graphic_type CE = refl
graphic_type XD = refl
graphic_type STD = refl

pub type_reads : ReadsWord type_word type_text (λ kind. ⊤)
type_reads = record { takes = type_takes; again = λ kind h. type_again kind; graphic = λ kind h. graphic_type kind }

-- ---- names

module _ (names : List (List ℕ)) where
  pub placed : (word : List ℕ) (number : ℕ) → place_of word names ≡ Some number → name_of names number ≡ word
  placed word number at =
      let found = position-Some (bytes_eq word) names number [] at in
      unwrap_or-slice_get names number [] ∙ sym (same_bytes word (get_or names number []) found.1)

  name_takes : (word : List ℕ) (number : ℕ) → name_word names word ≡ Some number → (word ≡ name_of names number) × IsNumberOf names number
  unfolding name_word
  name_takes word number e =
      let both = if_some (is_name word) (place_of word names) number e in
      let same = placed word number both.1 in
      (sym same, record { name = ap is_name same ∙ both.0; place = ap (λ (w : List ℕ). place_of w names) same ∙ both.1 })

  name_again : (number : ℕ) → IsNumberOf names number → name_word names (name_of names number) ≡ Some number
  unfolding name_word
  name_again number is = rw is.name is.place

  pub name_reads : ReadsWord (name_word names) (name_of names) (IsNumberOf names)
  name_reads = record { takes = name_takes; again = name_again; graphic = λ number is. name_is_graphic (name_of names number) is.name }
