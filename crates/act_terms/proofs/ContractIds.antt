-- The name of a contract, which is read as a name that may be a star.
use Rattle.std.proofs.Common.{◌≡◌, ◌≢◌, ℕ, Bool, true, false, List, codes, Option, Some, None, option_map, Result, Ok, Err, refl, sym, ap, ◌∙◌}
use Rattle.std.specs.Option.{ok_or}
use Rattle.std.specs.Str.{bytes_eq}
use Rattle.act_json.specs.Fields.{meaning_of, name_of}
use Rattle.act_json.specs.Results.{result_map}
use Rattle.act_json.specs.declared.fault.JsonFault.{JsonFault}
use Rattle.act_json.specs.declared.fault.JsonFault.TheVariants as json
use Rattle.act_model.specs.Name.{is_name}
use Rattle.act_terms.specs.Fault.{refused}
use Rattle.act_terms.specs.Fields.{needed}
use Rattle.act_terms.specs.Names.{id_named}
use Rattle.act_terms.specs.declared.fault.TermCause.TheVariants.{BadName}
use Rattle.act_terms.specs.declared.fault.TermsFault.{TermsFault}

-- the word of a text is this one, and it is a name
named : (term text word : List ℕ) → needed term (meaning_of name_of json.BadName (Ok (Some text))) ≡ Ok word → (text ≡ word) × (is_name text ≡ true)
named term text word read = by_name (is_name text) refl where
  by_name : (b : Bool) → is_name text ≡ b → (text ≡ word) × (is_name text ≡ true)
  by_name true is = ((let h : needed term (Ok (Some text)) ≡ Ok word = rw is at read in cc), is)
  by_name false is = absurd (let h : needed term (Err json.BadName) ≡ Ok word = rw is at read in cc)

pub word_is_name : (term word : List ℕ) (said : Result (Option (List ℕ)) JsonFault) → needed term (meaning_of name_of json.BadName said) ≡ Ok word → is_name word ≡ true
word_is_name term word (Ok (Some text)) read = let n = named term text word read in ap is_name (sym n.0) ∙ n.1
word_is_name term word (Ok None) read = absurd (cc)
word_is_name term word (Err fault) read = absurd (cc)

-- a word that is no star is the name
pub id_read : (term word : List ℕ) (said : Result (Option (List ℕ)) JsonFault) → needed term (meaning_of name_of json.BadName said) ≡ Ok word → bytes_eq word (codes "*") ≡ false →
    needed term (meaning_of id_named json.BadName said) ≡ Ok word
id_read term word (Ok (Some text)) read other = let n = named term text word read in rw (n.0, word_is_name term word (Ok (Some text)) read, other) refl
id_read term word (Ok None) read other = absurd (cc)
id_read term word (Err fault) read other = absurd (cc)

-- a star is refused
pub star_refused : (term word : List ℕ) (said : Result (Option (List ℕ)) JsonFault) → needed term (meaning_of name_of json.BadName said) ≡ Ok word → bytes_eq word (codes "*") ≡ true →
    needed term (meaning_of id_named json.BadName said) ≡ refused BadName term
star_refused term word (Ok (Some text)) read star = let n = named term text word read in rw (n.0, word_is_name term word (Ok (Some text)) read, star) refl
star_refused term word (Ok None) read star = absurd (cc)
star_refused term word (Err fault) read star = absurd (cc)

-- what is no word is refused as one
pub word_refused : (term : List ℕ) (fault : TermsFault) (said : Result (Option (List ℕ)) JsonFault) → needed term (meaning_of name_of json.BadName said) ≡ Err fault →
    needed term (meaning_of id_named json.BadName said) ≡ Err fault
word_refused term fault (Ok (Some text)) read = by_name (is_name text) refl where
  by_name : (b : Bool) → is_name text ≡ b → needed term (meaning_of id_named json.BadName (Ok (Some text))) ≡ Err fault
  by_name true is = absurd (let h : needed term (Ok (Some text)) ≡ Err fault = rw is at read in cc)
  by_name false is = rw is (rw is at read)
word_refused term fault (Ok None) read = read
word_refused term fault (Err other) read = read
