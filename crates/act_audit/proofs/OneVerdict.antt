-- Of a text no two verdicts are both so.
use Rattle.std.proofs.Common.{◌≡◌, ℕ, zero, suc, ◌-◌, ◌<◌, ◌≤◌, inl, inr, List, [], ◌∷◌, ◌++◌, length, take, drop, Option, Some, None, IsSome, refl, sym, ap, subst, ◌∙◌, append_assoc, arith}
use Rattle.std.proofs.lemmas.Bool.{cases_order}
use Rattle.std.proofs.lemmas.List.{take-append-drop}
use Rattle.std.proofs.lemmas.Option.{none-some, slice_get_within}
use Rattle.std.specs.List.{slice_get}
use Rattle.act_audit.specs.Journal.{IsTextOfJournal, first_past}
use Rattle.act_audit.specs.Order.{IsFirstDisorder, next_step}
use Rattle.act_audit.specs.Text.{first_difference, text_in}
use Rattle.act_audit.specs.Verdict.{AuditJob, Differs, IsRightFor, IsVerdictOn, IsWrong, names_of, wanted_text}
use Rattle.act_audit.specs.declared.verdict.Verdict.{Verdict}
use Rattle.act_audit.specs.declared.verdict.Verdict.TheVariants.{Right, Wrong, Disorder}
use Rattle.act_audit.proofs.Journals.{text-begins}
use Rattle.act_audit.proofs.Judged.{right-in-order, right-reads, the-same}
use Rattle.act_model.specs.Asks.{asks_of}
use Rattle.act_model.specs.Names.{NameLists}
use Rattle.act_model.specs.declared.journal.Item.{Item}
use Rattle.act_model.specs.declared.journal.Line.{Line}
use Rattle.act_model.specs.declared.journal.Step.{Step}
use Rattle.act_print.specs.Faults.{Begins, IsFirstFault, lines_of}

-- two numbers are one, where neither is below the other
neither : (a b : ℕ) → (a < b → ⊥) → (b < a → ⊥) → a ≡ b
neither a b below above = elim (cases_order a b) [
  | inl same ↦ same
  | inr apart ↦ elim apart [
    | inl less ↦ absurd (below less)
    | inr more ↦ absurd (above more)
  ]
]

some-is : (x y : Item) → Some x ≡ Some y → x ≡ y
some-is x y same = cc

number-is : (x y : ℕ) → Some x ≡ Some y → x ≡ y
number-is x y same = cc

-- ---- the first fault

take-of-take : {X : Type 0} (few many : ℕ) (xs : List X) → few ≤ many → take few (take many xs) ≡ take few xs
take-of-take zero many xs le = refl
take-of-take (suc few) zero xs le = absurd (omega (arith, le))
take-of-take (suc few) (suc many) [] le = refl
take-of-take (suc few) (suc many) (x ∷ xs) le = ap (λ (rest : List _). x ∷ rest) (take-of-take few many xs (omega (arith, le)))

-- a text that begins with lines begins with the first of them
begins-less : (names : NameLists) (all : List (List ℕ)) (few many : ℕ) → few ≤ many → Begins names (take many all) → Begins names (take few all)
begins-less names all few many le b =
    let front : take few (take many all) ≡ take few all = take-of-take few many all le in
    let parts : take many all ≡ take few all ++ drop few (take many all) = sym (take-append-drop few (take many all)) ∙ ap (λ (ls : List (List ℕ)). ls ++ drop few (take many all)) front in
    (b.0, b.1, b.2, drop few (take many all) ++ b.3, b.4 ∙ (ap (λ (ls : List (List ℕ)). ls ++ b.3) parts ∙ append_assoc (take few all) (drop few (take many all)) b.3))

one-fault : (names : NameLists) (bytes : List ℕ) (one other : ℕ) → IsFirstFault names bytes one → IsFirstFault names bytes other → one < other → ⊥
one-fault names bytes one other first second less =
    first.here (omega (arith, less, second.to_last)) (begins-less names (lines_of bytes) one (other - 1) (omega (arith, less)) second.before)

-- ---- the first disorder

one-place : (scripts : List (List Line)) (items : List Item) (line caller line2 caller2 : ℕ) (first : IsFirstDisorder scripts items line caller) (second : IsFirstDisorder scripts items line2 caller2) → first.place < second.place → ⊥
one-place scripts items line caller line2 caller2 first second less = elim first.here [
  | inl other ↦ other.other (subst (λ (c : ℕ). next_step scripts items first.place c ≡ Some other.item.step) other.caller_is (second.before first.place other.item less other.here))
  | inr short ↦ elim second.here [
    | inl other ↦ let within = slice_get_within items second.place other.item other.here in omega (arith, within, short.at_end, less)
    | inr later ↦ omega (arith, later.at_end, short.at_end, less)
  ]
]

not-some : (o : Option Step) → IsSome o → o ≡ None → ⊥
not-some None some none = absurd (cc)
not-some (Some step) some none = absurd (cc)

one-caller : (scripts : List (List Line)) (items : List Item) (line caller line2 caller2 : ℕ) (first : IsFirstDisorder scripts items line caller) (second : IsFirstDisorder scripts items line2 caller2) → first.place ≡ second.place → caller ≡ caller2
one-caller scripts items line caller line2 caller2 first second same = elim first.here [
  | inl one ↦ elim second.here [
    | inl other ↦
        let item : one.item ≡ other.item = some-is one.item other.item (sym one.here ∙ (ap (slice_get items) same ∙ other.here)) in
        sym one.caller_is ∙ (ap (λ (i : Item). i.caller) item ∙ other.caller_is)
    | inr short ↦ let within = slice_get_within items first.place one.item one.here in absurd (omega (arith, within, short.at_end, same))
  ]
  | inr one ↦ elim second.here [
    | inl other ↦ let within = slice_get_within items second.place other.item other.here in absurd (omega (arith, within, one.at_end, same))
    | inr short ↦ neither caller caller2
        (λ less. not-some (next_step scripts items first.place caller) one.left (ap (λ (p : ℕ). next_step scripts items p caller) same ∙ short.first caller one.from_one less))
        (λ less. not-some (next_step scripts items second.place caller2) short.left (ap (λ (p : ℕ). next_step scripts items p caller2) (sym same) ∙ one.first caller2 short.from_one less))
  ]
]

same-disorder : (scripts : List (List Line)) (items : List Item) (line caller line2 caller2 : ℕ) (first : IsFirstDisorder scripts items line caller) (second : IsFirstDisorder scripts items line2 caller2) → (line ≡ line2) × (caller ≡ caller2)
same-disorder scripts items line caller line2 caller2 first second =
    let place = neither first.place second.place (one-place scripts items line caller line2 caller2 first second) (one-place scripts items line2 caller2 line caller second first) in
    (omega (arith, first.line_is, second.line_is, place), one-caller scripts items line caller line2 caller2 first second place)

-- ---- verdicts

module _ (job : AuditJob) where
  same-items : (items others : List Item) → IsRightFor job items → IsRightFor job others → items ≡ others
  same-items items others right also = let read = right-reads job others also in the-same job others read.0 read.1 items (right-reads job items right)

  same-texts : (items others : List Item) → IsTextOfJournal (names_of job) (text_in job.text) items → IsTextOfJournal (names_of job) (text_in job.text) others → items ≡ others
  same-texts items others text also = let read = text-begins (names_of job) job.text others also in the-same job others read.0 read.1 items (text-begins (names_of job) job.text items text)

  one-difference : (line other : ℕ) → Differs job line → Differs job other → line ≡ other
  one-difference line other first second =
      let same = same-texts first.items second.items first.journal second.journal in
      let past : first_past job.portfolio first.items ≡ first_past job.portfolio second.items = ap (first_past job.portfolio) same in
      elim first.here [
        | inl one ↦ elim second.here [
          | inl two ↦ number-is line other (sym one ∙ (past ∙ two))
          | inr two ↦ absurd (none-some line (sym two.0 ∙ (sym past ∙ one)))
        ]
        | inr one ↦ elim second.here [
          | inl two ↦ absurd (none-some other (sym one.0 ∙ (past ∙ two)))
          | inr two ↦ one.1 ∙ (ap (λ (is : List Item). first_difference job.text (wanted_text job is)) same ∙ sym two.1)
        ]
      ]

  one-wrong : (line other : ℕ) → IsWrong job line → IsWrong job other → line ≡ other
  one-wrong line other first second = elim first.here [
    | inl one ↦ elim second.here [
      | inl two ↦ neither line other (one-fault (names_of job) (text_in job.text) line other one two) (one-fault (names_of job) (text_in job.text) other line two one)
      | inr two ↦ absurd (one.no_text two.journal.printed two.journal.text)
    ]
    | inr one ↦ elim second.here [
      | inl two ↦ absurd (two.no_text one.journal.printed one.journal.text)
      | inr two ↦ one-difference line other one two
    ]
  ]

  pub one-verdict : (one other : Verdict) → IsVerdictOn job one → IsVerdictOn job other → one ≡ other
  one-verdict (Right n) (Right m) a b = ap (λ (k : ℕ). Right k) (a.count ∙ (ap (λ (is : List Item). length (asks_of is)) (same-items a.items b.items a.right b.right) ∙ sym b.count))
  one-verdict (Right n) (Wrong line) a b = absurd (b.not_right a.items a.right)
  one-verdict (Right n) (Disorder line caller) a b = absurd (right-in-order job n line caller a b)
  one-verdict (Wrong line) (Right m) a b = absurd (a.not_right b.items b.right)
  one-verdict (Wrong line) (Wrong other) a b = ap (λ (k : ℕ). Wrong k) (one-wrong line other a b)
  one-verdict (Wrong line) (Disorder other caller) a b = absurd (a.not_right b.items b.right)
  one-verdict (Disorder line caller) (Right m) a b = absurd (right-in-order job m line caller b a)
  one-verdict (Disorder line caller) (Wrong other) a b = absurd (b.not_right a.items a.right)
  one-verdict (Disorder line caller) (Disorder line2 caller2) a b =
      let same = same-items a.items b.items a.right b.right in
      let both = same-disorder job.scripts.lists b.items line caller line2 caller2 (subst (λ (is : List Item). IsFirstDisorder job.scripts.lists is line caller) same a.disorder) b.disorder in
      rw (both.0, both.1) refl
