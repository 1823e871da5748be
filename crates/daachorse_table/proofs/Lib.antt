mod FirstReads
mod FromText
