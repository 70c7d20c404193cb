-- The answers to the asks of a journal: each contract asked, evaluated from inception over the entries before the ask. This profile's own.
use Rattle.std.specs.Prelude.{List, map, take}
use Rattle.act_model.specs.Answer.{Reply}
use Rattle.act_model.specs.Asks.{asks_of}
use Rattle.act_model.specs.Journal.{book_of, contracts_of}
use Rattle.act_model.specs.Names.{NameLists}
use Rattle.act_model.specs.declared.asks.Asking.{Asking}
use Rattle.act_model.specs.declared.journal.Item.{Item}
use Rattle.act_model.specs.declared.observed.Obs.{Obs}
use Rattle.act_profile.specs.Run.{Contracts, run_of}

-- the answer to an ask over a book's entries: each contract asked, in portfolio order, with its run over the entries before the ask
abbrev pub answer_to : Contracts → NameLists → List Obs → Asking → Reply
answer_to contracts names entries asking =
    record {
      caller = asking.caller;
      number = asking.number;
      version = asking.version;
      runs = map (λ c. (c, run_of contracts (take asking.version entries) c)) (contracts_of names asking.asked);
    }

-- the answers to the asks of a journal, by caller and then by number
abbrev pub answers_of : Contracts → NameLists → List Item → List Reply
answers_of contracts names items = map (answer_to contracts names (book_of items)) (asks_of items)
