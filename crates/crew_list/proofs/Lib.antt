mod Steps
mod Looking
mod Grouping
mod Sorting
mod Ranking
