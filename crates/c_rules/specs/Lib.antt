pub mod RulesStruct
