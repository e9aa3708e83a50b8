mod PourLemmas
mod LineLemmas
mod GroupLines
mod SameLines
mod PartLemmas
mod WholeLog
