-- The list that a JSON value is, and the portfolio of bytes by their text.
use Rattle.std.proofs.Common.{◌≡◌, ℕ, List, Some, Ok, ap, sym, ◌∙◌}
use Rattle.serde_json.specs.Data.{Data, null, boolean, number, string, array, object, Items}
use Rattle.serde_json.specs.Find.{as_array}
use Rattle.serde_json.specs.View.{items_of}
use Rattle.act_json.proofs.Trees.{json_of-quoted}
use Rattle.act_json.specs.Quoting.{quoted}
use Rattle.act_json.specs.Tree.{json_as_is}
use Rattle.act_terms.proofs.Elements.{listed_again}
use Rattle.act_portfolio.specs.Reading.{list_of, portfolio_in, portfolio_of}

of_items : (items : Items) (ds : List Data) → Some (items_of ds) ≡ Some items → list_of (array items) ≡ Ok ds
of_items items ds is = let e : items_of ds ≡ items = cc in rw (← e) (ap Ok (listed_again ds))

pub list_is : (d : Data) (ds : List Data) → Some (items_of ds) ≡ as_array d → list_of d ≡ Ok ds
list_is null ds is = absurd (cc)
list_is (boolean b) ds is = absurd (cc)
list_is (number n) ds is = absurd (cc)
list_is (string s) ds is = absurd (cc)
list_is (array items) ds is = of_items items ds is
list_is (object ms) ds is = absurd (cc)

-- the portfolio of bytes is that of what is read from their quoted text as it stands
pub as_quoted : (bytes text : List ℕ) → text ≡ quoted bytes → portfolio_of bytes ≡ portfolio_in (json_as_is text)
unfolding portfolio_of
as_quoted bytes text is = ap portfolio_in (json_of-quoted bytes) ∙ ap (λ t. portfolio_in (json_as_is t)) (sym is)
