-- Texts that are written piece by piece.
use Rattle.std.proofs.Common.{◌≡◌, ℕ, ◌+◌, ◌≤◌, zero, suc, List, [], ◌∷◌, ◌++◌, length, take, drop, Option, None, Some, Result, Ok, Err, refl, sym, ap, subst, ◌∙◌, arith, append_assoc, append-nil, length-append}
use Rattle.std.specs.Prelude.{option_map}
use Rattle.std.specs.Result.{IsErrAnd}
use Rattle.std.proofs.Math.Seq.{take-append-add}
use Rattle.std.proofs.lemmas.List.{take-append-drop, take-append-le, length-take}
use Rattle.act_io.specs.Page.{Page, write_failed, written_on}
use Rattle.act_engine.specs.Writing.{IsPart, StopsIn, Writes}
use Rattle.act_engine.specs.declared.writing.Failure.{Failure}
use Rattle.act_engine.specs.declared.writing.Failure.TheVariants.{Sink as SinkFailure, Memory}

-- ---- what was written

-- what a sink tells, with two texts behind each other
told-both : (written : Option (List ℕ)) (a b : List ℕ) → option_map (λ (w : List ℕ). w ++ b) (option_map (λ (w : List ℕ). w ++ a) written) ≡ option_map (λ (w : List ℕ). w ++ (a ++ b)) written
told-both None a b = refl
told-both (Some w) a b = rw (append_assoc w a b) refl

told-nothing : (written : Option (List ℕ)) → option_map (λ (w : List ℕ). w ++ []) written ≡ written
told-nothing None = refl
told-nothing (Some w) = rw (append-nil w) refl

-- two texts behind each other
pub written-both : (page : Page) (a b : List ℕ) → written_on (written_on page a) b ≡ written_on page (a ++ b)
written-both page a b = ap (λ (w : Option (List ℕ)). record page { written = w }) (told-both page.written a b)

-- nothing written leaves what was written
pub written-nothing : (page : Page) → written_on page [] ≡ page
written-nothing page = ap (λ (w : Option (List ℕ)). record page { written = w }) (told-nothing page.written)

-- a text behind another
pub then-text : (before middle after : Page) (a b : List ℕ) → middle ≡ written_on before a → after ≡ written_on middle b → after ≡ written_on before (a ++ b)
then-text before middle after a b first second = second ∙ (ap (λ (p : Page). written_on p b) first ∙ written-both before a b)

-- ---- parts

-- the first part of a text, and of what is left
pub take-both : (m n : ℕ) (text : List ℕ) → m ≤ length text → take (m + n) text ≡ take m text ++ take n (drop m text)
take-both m n text within =
    let here : length (take m text) ≡ m = omega (arith, length-take m text) in
    rw (take-append-drop m text, here) at (take-append-add (take m text) (drop m text) n)

-- a piece more
pub written-piece : (before middle after : Page) (m n : ℕ) (text piece : List ℕ) → m ≤ length text → piece ≡ drop m text → middle ≡ written_on before (take m text) → after ≡ written_on middle (take n piece)
    → after ≡ written_on before (take (m + n) text)
written-piece before middle after m n text piece within rest first second =
    then-text before middle after (take m text) (take n (drop m text)) first (second ∙ ap (λ (p : List ℕ). written_on middle (take n p)) rest) ∙ ap (written_on before) (sym (take-both m n text within))

-- a part of a text is one of the text with more behind it
cut : (n : ℕ) (a b : List ℕ) → (m : ℕ) × (take m (a ++ b) ≡ take n a)
cut zero a b = (zero, refl)
cut (suc n) [] b = (zero, refl)
cut (suc n) (x ∷ a) b = let rest = cut n a b in (suc rest.0, ap (λ xs. x ∷ xs) rest.1)

pub part-first : (stop : Failure) (a b : List ℕ) (before after : Page) → StopsIn stop a before after → StopsIn stop (a ++ b) before after
part-first SinkFailure a b before after part =
    let within : part.bytes ≤ length a = omega (arith, part.fewer) in
    record {
      bytes = part.bytes;
      fewer = omega (arith, part.fewer, length-append a b);
      put = part.put ∙ ap (λ (t : List ℕ). write_failed (written_on before t)) (sym (take-append-le part.bytes a b within));
    }
part-first Memory a b before after part =
    let same = cut part.bytes a b in
    record { bytes = same.0; put = part.put ∙ ap (written_on before) (sym same.1) }

-- a part behind a text that was written
pub part-behind : (stop : Failure) (a b : List ℕ) (before middle after : Page) → middle ≡ written_on before a → StopsIn stop b middle after → StopsIn stop (a ++ b) before after
part-behind SinkFailure a b before middle after first part =
    record {
      bytes = length a + part.bytes;
      fewer = omega (arith, part.fewer, length-append a b);
      put = part.put ∙ ap write_failed (then-text before middle (written_on middle (take part.bytes b)) a (take part.bytes b) first refl ∙ ap (written_on before) (sym (take-append-add a b part.bytes)));
    }
part-behind Memory a b before middle after first part =
    record {
      bytes = length a + part.bytes;
      put = then-text before middle after a (take part.bytes b) first part.put ∙ ap (written_on before) (sym (take-append-add a b part.bytes));
    }

-- a text behind one that was written
pub writes-behind : {A : Type 0} (r : Result A Failure) (a b : List ℕ) (before middle after : Page) → middle ≡ written_on before a → Writes b middle r after → Writes (a ++ b) before r after
writes-behind (Ok value) a b before middle after first second = then-text before middle after a b first second
writes-behind (Err stop) a b before middle after first second = part-behind stop a b before middle after first second

-- where a stop is handed on, a part was written
pub writes-part : {A : Type 0} (r : Result A Failure) (stop : Failure) (text : List ℕ) (before after : Page) → IsErrAnd r (λ s. s ≡ stop) → StopsIn stop text before after → Writes text before r after
writes-part (Ok value) stop text before after is part = absurd is
writes-part (Err s) stop text before after is part = subst (λ (t : Failure). StopsIn t text before after) (sym is) part

-- where memory ran out before anything was written, nothing of the text was
pub none-of : (text : List ℕ) (page : Page) → IsPart text page page
none-of text page = record { bytes = 0; put = sym (written-nothing page) }

pub writes-none : {A : Type 0} (r : Result A Failure) (text : List ℕ) (page : Page) → IsErrAnd r (λ s. s ≡ Memory) → Writes text page r page
writes-none r text page is = writes-part r Memory text page page is (none-of text page)

-- the same of the first text of two
pub writes-first : {A : Type 0} (r : Result A Failure) (stop : Failure) (a b : List ℕ) (before after : Page) → IsErrAnd r (λ s. s ≡ stop) → StopsIn stop a before after → Writes (a ++ b) before r after
writes-first r stop a b before after is part = writes-part r stop (a ++ b) before after is (part-first stop a b before after part)

-- ---- what is left to be written

-- of a text, this rest is still to be written
pub record Left (whole rest : List ℕ) (before now : Page) : Type 0 where
  pub done : List ℕ
  pub split : whole ≡ done ++ rest
  pub put : now ≡ written_on before done

pub left-all : (whole : List ℕ) (before : Page) → Left whole whole before before
left-all whole before = record { done = []; split = refl; put = sym (written-nothing before) }

-- a piece more was written
pub left-next : (whole left piece rest : List ℕ) (before now next : Page) → Left whole left before now → left ≡ piece ++ rest → next ≡ written_on now piece → Left whole rest before next
left-next whole left piece rest before now next text here put =
    record {
      done = text.done ++ piece;
      split = text.split ∙ (ap (λ (t : List ℕ). text.done ++ t) here ∙ sym (append_assoc text.done piece rest));
      put = then-text before now next text.done piece text.put put;
    }

-- the next piece was written in part
pub left-part : (stop : Failure) (whole left piece rest : List ℕ) (before now next : Page) → Left whole left before now → left ≡ piece ++ rest → StopsIn stop piece now next → StopsIn stop whole before next
left-part stop whole left piece rest before now next text here part =
    let within = part-behind stop text.done (piece ++ rest) before now next text.put (part-first stop piece rest now next part) in
    rw (text.split, here) within

-- nothing is left
pub left-none : (whole left : List ℕ) (before now : Page) → Left whole left before now → left ≡ [] → now ≡ written_on before whole
left-none whole left before now text none =
    text.put ∙ ap (written_on before) (sym (text.split ∙ (ap (λ (t : List ℕ). text.done ++ t) none ∙ append-nil text.done)))
