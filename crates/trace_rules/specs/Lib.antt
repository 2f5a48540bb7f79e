pub mod RuledTraces
