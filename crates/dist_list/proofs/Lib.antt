mod Lists
mod NamedLemmas
mod PartLemmas
mod SomeList
