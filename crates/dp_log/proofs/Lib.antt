mod rows
