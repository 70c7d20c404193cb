-- How runs end.
use Rattle.std.proofs.Common.{◌≡◌, Option, None, Result, Ok, Err, sym, subst}
use Rattle.std.specs.Result.{IsErrAnd}
use Rattle.act_engine.specs.Ending.{Concludes, Ends, Goes, Meaning, Outside}
use Rattle.act_engine.specs.Reading.{Halt, halt_of}
use Rattle.act_engine.specs.declared.halt.Halt.{Halt as HaltMade}
use Rattle.act_engine.specs.declared.status.Status.{Status}
use Rattle.act_engine.proofs.Ending.{ends-halt, ends-whole, with_page}
use Rattle.act_history.specs.History.{History}
use Rattle.act_io.specs.Page.{Page}
use Rattle.act_top.specs.Ran.{board_of, status_told}
use Rattle.act_top.specs.Words.{usage}
use Rattle.act_top.specs.declared.ran.Ran.{Ran}

-- what holds of a halt holds of a run that passes it on, which hands out nothing
pub ran-halt : (r : Result Ran HaltMade) (halt : HaltMade) (P : Result Status Halt → Option History → Type 0) → IsErrAnd r (λ h. h ≡ halt) → P (Err (halt_of halt)) None → P (status_told r) (board_of r)
ran-halt (Ok ran) halt P is so = absurd is
ran-halt (Err h) halt P is so = subst (λ (g : HaltMade). P (Err (halt_of g)) None) (sym is) so

-- the same where it hands out no board
pub alone-stops : (r : Result Ran HaltMade) (halt : HaltMade) (P : Result Status Halt → Type 0) → IsErrAnd r (λ h. h ≡ halt) → P (Err (halt_of halt)) → P (status_told r)
alone-stops r halt P = ran-halt r halt (λ status board. P status)

-- ---- at the end

module _ {A : Type 0} (meaning : Meaning A History) (before after : Outside) where
  -- a command of one thread that wrote its text
  pub alone-whole : (made : Result Ran HaltMade) (ran : Ran) → made ≡ Ok ran → Goes meaning before (status_told made) None after → Ends meaning usage before ran.status None after
  alone-whole made ran is goes = ends-whole meaning usage before ran.status None after (subst (λ (r : Result Ran HaltMade). Goes meaning before (status_told r) None after) is goes)

  -- and one that stopped
  pub alone-halt : (made : Result Ran HaltMade) (halt : HaltMade) (status : Status) (page : Page) → made ≡ Err halt → Goes meaning before (status_told made) None after → Concludes usage (halt_of halt) after.page status page
      → Ends meaning usage before status None (with_page after page)
  alone-halt made halt status page is goes said = ends-halt meaning usage before (halt_of halt) status after page (subst (λ (r : Result Ran HaltMade). Goes meaning before (status_told r) None after) is goes) said

  -- a run that wrote its text
  pub run-whole : (made : Result Ran HaltMade) (ran : Ran) → made ≡ Ok ran → Goes meaning before (status_told made) (board_of made) after → Ends meaning usage before ran.status ran.board after
  run-whole made ran is goes = ends-whole meaning usage before ran.status ran.board after (subst (λ (r : Result Ran HaltMade). Goes meaning before (status_told r) (board_of r) after) is goes)

  -- and one that stopped
  pub run-halt : (made : Result Ran HaltMade) (halt : HaltMade) (status : Status) (page : Page) → made ≡ Err halt → Goes meaning before (status_told made) (board_of made) after → Concludes usage (halt_of halt) after.page status page
      → Ends meaning usage before status None (with_page after page)
  run-halt made halt status page is goes said = ends-halt meaning usage before (halt_of halt) status after page (subst (λ (r : Result Ran HaltMade). Goes meaning before (status_told r) (board_of r) after) is goes) said
