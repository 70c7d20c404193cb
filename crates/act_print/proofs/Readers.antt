-- Readers of lines: what is read is what is written, what is written is read again, and where a reader stops, what it has
-- read begins what is written somewhere, but not with the line at which it stops.
use Rattle.std.proofs.Common.{◌≡◌, ℕ, List, [], ◌∷◌, ◌++◌, Option, Some, None, Result, Ok, Err, refl, sym, ◌∙◌, ap, subst, append_assoc}
use Rattle.act_print.specs.Reading.{◌>>=◌, Lines, Reading, line_by, one_line}

-- a reader stops at what is left
pub record Stops {V : Type 0} (read : Lines → Reading V) (text : V → Lines) (Fits : V → Type 0) (lines left : Lines) : Type 0 where
  pub front : Lines
  pub split : lines ≡ front ++ left
  pub begun : V
  pub fits : Fits begun
  pub rest : Lines
  pub begins : text begun ≡ front ++ rest
  pub wrong : (line : List ℕ) (behind : Lines) → left ≡ line ∷ behind → (other : Lines) (x : V × Lines) → read (front ++ (line ∷ other)) ≡ Ok x → ⊥

pub record Reads {V : Type 0} (read : Lines → Reading V) (text : V → Lines) (Fits : V → Type 0) : Type 0 where
  pub some : V
  pub some_fits : Fits some
  pub takes : (lines : Lines) (v : V) (rest : Lines) → read lines ≡ Ok (v, rest) → (lines ≡ text v ++ rest) × Fits v
  pub again : (v : V) → Fits v → (rest : Lines) → read (text v ++ rest) ≡ Ok (v, rest)
  pub stops : (lines left : Lines) → read lines ≡ Err left → Stops read text Fits lines left

-- ---- results

pub bind_ok : {A B : Type 0} (r : Result A Lines) (f : A → Result B Lines) (y : B) → (r >>= f) ≡ Ok y → (x : A) × (r ≡ Ok x) × (f x ≡ Ok y)
bind_ok (Ok x) f y e = (x, refl, e)
bind_ok (Err left) f y e = absurd (cc)

abbrev pub done : {A : Type 0} → A → Result A Lines
done x = Ok x

abbrev pub failed : (A : Type 0) → Lines → Result A Lines
failed A left = Err left

pub ok_is : {A : Type 0} (x y : A) → done x ≡ done y → x ≡ y
ok_is x y e = cc

pub err_is : (A : Type 0) (x y : Lines) → failed A x ≡ failed A y → x ≡ y
err_is A x y e = cc

pub not_both : {A : Type 0} (x : A) (left : Lines) → failed A left ≡ done x → ⊥
not_both x left e = cc

-- ---- one line

module _ {V : Type 0} {read : List ℕ → Option V} {text : V → List ℕ} {Fits : V → Type 0} (takes : (line : List ℕ) (v : V) → read line ≡ Some v → (line ≡ text v) × Fits v) (again : (v : V) → Fits v → read (text v) ≡ Some v) (example : V) (fits : Fits example) where
  line_takes : (lines : Lines) (v : V) (rest : Lines) → line_by read lines ≡ Ok (v, rest) → (lines ≡ (text v ∷ []) ++ rest) × Fits v
  line_takes [] v rest e = absurd (cc)
  line_takes (line ∷ lines) v rest e = by (read line) refl e where
    by : (o : Option V) → read line ≡ o → one_line o line lines ≡ Ok (v, rest) → (line ∷ lines ≡ (text v ∷ []) ++ rest) × Fits v
    by None is e = absurd (cc)
    by (Some x) is e =
        let parts = ok_is (x, lines) (v, rest) e in
        let same : x ≡ v = ap (λ (p : V × Lines). p.0) parts in
        let behind : lines ≡ rest = ap (λ (p : V × Lines). p.1) parts in
        let taken = takes line v (is ∙ ap Some same) in
        (rw (taken.0, behind) refl, taken.1)

  line_stops : (lines left : Lines) → line_by read lines ≡ Err left → Stops (line_by read) (λ v. text v ∷ []) Fits lines left
  line_stops [] left e =
      let none : [] ≡ left = err_is (V × Lines) [] left e in
      record { front = []; split = none; begun = example; fits = fits; rest = text example ∷ []; begins = refl; wrong = λ line behind is. absurd (let h = none ∙ is in cc) }
  line_stops (line ∷ lines) left e = by (read line) refl e where
    by : (o : Option V) → read line ≡ o → one_line o line lines ≡ Err left → Stops (line_by read) (λ v. text v ∷ []) Fits (line ∷ lines) left
    by (Some x) is e = absurd (cc)
    by None is e =
        let all : line ∷ lines ≡ left = err_is (V × Lines) (line ∷ lines) left e in
        record {
          front = [];
          split = all;
          begun = example;
          fits = fits;
          rest = text example ∷ [];
          begins = refl;
          wrong = λ other behind cons more x ok.
              let same : line ≡ other = let h = all ∙ cons in cc in
              not_both x (other ∷ more) (sym (ap (λ (o : Option V). one_line o other more) (ap read (sym same) ∙ is)) ∙ ok);
        }

  pub line_reads : Reads (line_by read) (λ v. text v ∷ []) Fits
  line_reads = record {
    some = example;
    some_fits = fits;
    takes = line_takes;
    stops = line_stops;
    again = λ v is rest. ap (λ (o : Option V). one_line o (text v) rest) (again v is);
  }

-- ---- one reader behind another

-- what is made of a value and of what is read behind it
abbrev pub made : {A B C : Type 0} → (A → B → C) → A → B × Lines → Reading C
made make a y = Ok (make a y.0, y.1)

abbrev pub behind : {A B C : Type 0} → (A → Lines → Reading B) → (A → B → C) → A × Lines → Reading C
behind rb make x = rb x.0 x.1 >>= λ y. Ok (make x.0 y.0, y.1)

abbrev pub both : {A B C : Type 0} → (Lines → Reading A) → (A → Lines → Reading B) → (A → B → C) → Lines → Reading C
both ra rb make lines = ra lines >>= λ x. rb x.0 x.1 >>= λ y. Ok (make x.0 y.0, y.1)

module _ {A B C : Type 0} {ra : Lines → Reading A} {ta : A → Lines} {FA : A → Type 0} (first : Reads ra ta FA) {rb : A → Lines → Reading B} {tb : A → B → Lines} {FB : A → B → Type 0}
    (second : (a : A) → FA a → Reads (rb a) (tb a) (FB a)) (make : A → B → C) (tc : C → Lines) (FC : C → Type 0)
    (parts : (c : C) → FC c → (a : A) × (b : B) × FA a × FB a b × (make a b ≡ c)) (whole : (a : A) (b : B) → FA a → FB a b → FC (make a b))
    (texts : (a : A) (b : B) → FA a → FB a b → tc (make a b) ≡ ta a ++ tb a b) where
  both_some : (lines : Lines) (x : A × Lines) → ra lines ≡ Ok x → both ra rb make lines ≡ behind rb make x
  both_some lines x e = ap (λ (r : Reading A). r >>= behind rb make) e

  both_take : (lines : Lines) (c : C) (rest : Lines) → both ra rb make lines ≡ Ok (c, rest) → (lines ≡ tc c ++ rest) × FC c
  both_take lines c rest e =
      let x = bind_ok (ra lines) (behind rb make) (c, rest) e in
      let y = bind_ok (rb x.0.0 x.0.1) (made make x.0.0) (c, rest) x.2 in
      let same = ok_is (make x.0.0 y.0.0, y.0.1) (c, rest) y.2 in
      let a = first.takes lines x.0.0 x.0.1 x.1 in
      let b = (second x.0.0 a.1).takes x.0.1 y.0.0 y.0.1 y.1 in
      let text : lines ≡ tc (make x.0.0 y.0.0) ++ y.0.1 =
      a.0 ∙ ap (λ (t : Lines). ta x.0.0 ++ t) b.0 ∙ sym (append_assoc (ta x.0.0) (tb x.0.0 y.0.0) y.0.1) ∙ ap (λ (t : Lines). t ++ y.0.1) (sym (texts x.0.0 y.0.0 a.1 b.1)) in
      subst (λ (p : C × Lines). (lines ≡ tc p.0 ++ p.1) × FC p.0) same (text, whole x.0.0 y.0.0 a.1 b.1)

  made_again : (a : A) (b : B) → FA a → FB a b → (rest : Lines) → both ra rb make (tc (make a b) ++ rest) ≡ Ok (make a b, rest)
  made_again a b fa fb rest =
      let regrouped : tc (make a b) ++ rest ≡ ta a ++ (tb a b ++ rest) = ap (λ (t : Lines). t ++ rest) (texts a b fa fb) ∙ append_assoc (ta a) (tb a b) rest in
      let one = first.again a fa (tb a b ++ rest) in
      let two = (second a fa).again b fb rest in
      ap (both ra rb make) regrouped ∙ both_some (ta a ++ (tb a b ++ rest)) (a, tb a b ++ rest) one ∙ ap (λ (r : Reading B). r >>= made make a) two

  both_again : (c : C) → FC c → (rest : Lines) → both ra rb make (tc c ++ rest) ≡ Ok (c, rest)
  both_again c fits rest =
      let p = parts c fits in
      subst (λ (x : C). both ra rb make (tc x ++ rest) ≡ Ok (x, rest)) p.4 (made_again p.0 p.1 p.2 p.3 rest)

  -- it stops in the first
  first_stops : (lines left : Lines) → Stops ra ta FA lines left → Stops (both ra rb make) tc FC lines left
  first_stops lines left s =
      let more = second s.begun s.fits in
      record {
        front = s.front;
        split = s.split;
        begun = make s.begun more.some;
        fits = whole s.begun more.some s.fits more.some_fits;
        rest = s.rest ++ tb s.begun more.some;
        begins = texts s.begun more.some s.fits more.some_fits ∙ ap (λ (t : Lines). t ++ tb s.begun more.some) s.begins ∙ append_assoc s.front s.rest (tb s.begun more.some);
        wrong = λ line after cons other x ok. let y = bind_ok (ra (s.front ++ (line ∷ other))) (behind rb make) x ok in s.wrong line after cons other y.0 y.1;
      }

  -- it stops in the second
  second_stops : (lines left rest : Lines) (a : A) → lines ≡ ta a ++ rest → FA a → Stops (rb a) (tb a) (FB a) rest left → Stops (both ra rb make) tc FC lines left
  second_stops lines left rest a text fa s =
      record {
        front = ta a ++ s.front;
        split = text ∙ ap (λ (t : Lines). ta a ++ t) s.split ∙ sym (append_assoc (ta a) s.front left);
        begun = make a s.begun;
        fits = whole a s.begun fa s.fits;
        rest = s.rest;
        begins = texts a s.begun fa s.fits ∙ ap (λ (t : Lines). ta a ++ t) s.begins ∙ sym (append_assoc (ta a) s.front s.rest);
        wrong = λ line after cons other x ok.
            let regrouped = append_assoc (ta a) s.front (line ∷ other) in
            let one = first.again a fa (s.front ++ (line ∷ other)) in
            let reached : behind rb make (a, s.front ++ (line ∷ other)) ≡ Ok x = sym (ap (both ra rb make) regrouped ∙ both_some (ta a ++ (s.front ++ (line ∷ other))) (a, s.front ++ (line ∷ other)) one) ∙ ok in
            let y = bind_ok (rb a (s.front ++ (line ∷ other))) (made make a) x reached in
            s.wrong line after cons other y.0 y.1;
      }

  second_fails : (r : Reading B) (a : A) (left : Lines) → (r >>= made make a) ≡ failed (C × Lines) left → r ≡ Err left
  second_fails (Ok y) a left e = absurd (cc)
  second_fails (Err l) a left e = let same : l ≡ left = err_is (C × Lines) l left e in ap (failed (B × Lines)) same

  stop_by : (lines left : Lines) (r : Reading A) → ra lines ≡ r → (r >>= behind rb make) ≡ failed (C × Lines) left → Stops (both ra rb make) tc FC lines left
  stop_by lines left (Err l) is e =
      let same : l ≡ left = err_is (C × Lines) l left e in
      first_stops lines left (first.stops lines left (is ∙ ap (failed (A × Lines)) same))
  stop_by lines left (Ok x) is e =
      let a = first.takes lines x.0 x.1 is in
      second_stops lines left x.1 x.0 a.0 a.1 ((second x.0 a.1).stops x.1 left (second_fails (rb x.0 x.1) x.0 left e))

  pub then_reads : Reads (both ra rb make) tc FC
  then_reads = record {
    some = make first.some (second first.some first.some_fits).some;
    some_fits = whole first.some (second first.some first.some_fits).some first.some_fits (second first.some first.some_fits).some_fits;
    takes = both_take;
    again = both_again;
    stops = λ lines left e. stop_by lines left (ra lines) refl e;
  }
