-- What the latest chain and its tables are after a list of events.
use Rattle.std.specs.Prelude.{ℕ, List}
use Rattle.sha2.specs.Sha256.{sha256}
use Rattle.esc_tables.specs.KeyName.{KeyName}
use Rattle.esc_tables.specs.ObjectValue.{ObjectValue}
use Rattle.esc_tables.specs.Reading.{reading}
use Rattle.esc_chain.specs.Chain.{IsLatestChainAt}
use Rattle.esc_apply.specs.Registry.{ObjectsByKey, IsEntriesOf}
use Rattle.esc_apply.specs.Tables.{tables}
use Rattle.esc_events.specs.Events.{EventValue, union, last_moment}
use Rattle.esc_events.specs.StateAfter.{deposits_of, held_rows, held_body}

module _ (e : List EventValue) where
  -- the rows of the latest chain of the held rows up to the moment that is set
  abbrev pub IsChainOf : List ℕ → Type 0
  IsChainOf chain =
      IsLatestChainAt (union e) (held_rows sha256 reading e) (last_moment e) chain

  -- the tables of a chain, by the bodies that are held
  abbrev pub tables_of_chain : List ℕ → ObjectsByKey
  tables_of_chain chain = tables (deposits_of reading (held_body sha256 reading e) chain)

  -- these entries are the tables of the latest chain
  pub record AreEntries (entries : List (KeyName × ObjectValue)) : Type 0 where
    pub chain : List ℕ
    pub latest : IsChainOf chain
    pub objects : IsEntriesOf (tables_of_chain chain) entries
